use Rattle.std.proofs.Common.{◌≡◌, ◌<◌, [], length, get_or, None, Some, IfSome, refl, ap, sym, subst, ◌∙◌, arith}
use Rattle.std.proofs.Math.ListN.{length-set}
use Rattle.bt_tree.specs.Blocks.{block_at}
use Rattle.bt_store.proofs.Found.{filled_more}
use Rattle.bt_store.proofs.BatchReads.{front_part}
use Rattle.bt_store.proofs.batches.digest_together.Goals as goal

pub loop-j-preserved : goal.loop-j-preserved
loop-j-preserved g c =
    let digests = c.blocks8-digests.result in
    let j = c.loop-j.j in
    let within : j < length c.loop-j.together = omega (arith, c.loop-j.invariant.size, c.loop-j-test.true) in
    record {
      size = length-set c.loop-j.together j (Some (get_or digests j [])) ∙ c.loop-j.invariant.size;
      below = filled_more (λ t. Some (get_or digests t [])) c.loop-j.together j (Some (get_or digests j [])) None within c.loop-j.invariant.below refl;
    }

pub returns : goal.returns
returns g c = λ j lt.
    subst (λ known. IfSome known (λ digest. digest ≡ g.H.NodeHash.digest (block_at c.args.buffer.now j)))
    (sym (c.loop-j.invariant.below j (omega (arith, lt, c.loop-j-test.false))))
    (c.blocks8-digests.ensures j lt ∙ ap g.H.NodeHash.digest (front_part j c.args.buffer.now lt))
