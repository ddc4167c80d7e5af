use Rattle.std.proofs.Common.{◌≡◌, ◌+◌, ◌<◌, None, IfSome, length, get_or, ap, sym, subst, ◌∙◌, arith}
use Rattle.std.proofs.Math.ListN.{length-set}
use Rattle.bt_tree.specs.Blocks.{block_at}
use Rattle.bt_store.specs.BatchesSteps.{found_of}
use Rattle.bt_store.specs.declared.batches.BlockFound.TheVariants.{Failed}
use Rattle.bt_store.proofs.Found.{filled_more}
use Rattle.bt_store.proofs.BatchReads.{part_is}
use Rattle.bt_store.proofs.batches.digest_batch.Goals as goal

pub loop-j-preserved : goal.loop-j-preserved
loop-j-preserved g c =
    let j = c.loop-j.j in
    let dig = g.H.NodeHash.digest in
    let within : j < length c.loop-j.blocks_found = omega (arith, c.loop-j.invariant.size, c.requires.few) in
    let here : c.find_slot.result ≡ found_of dig c.args.geometry (c.args.first + j) (get_or c.args.lengths.now j None) (block_at c.args.buffer.now j) =
    c.find_slot.ensures ∙ ap (found_of dig c.args.geometry (c.args.first + j) (get_or c.args.lengths.now j None)) (part_is j c.args.buffer.now) in
    record {
      size = length-set c.loop-j.blocks_found j c.find_slot.result ∙ c.loop-j.invariant.size;
      below = filled_more (λ t. found_of dig c.args.geometry (c.args.first + t) (get_or c.args.lengths.now t None) (block_at c.args.buffer.now t))
          c.loop-j.blocks_found j c.find_slot.result Failed within c.loop-j.invariant.below here;
    }

pub find_slot-requires-clause-known : goal.find_slot-requires-clause-known
find_slot-requires-clause-known g c =
    let j = c.loop-j.j in
    subst (λ slot. IfSome (get_or c.digest_together-together.result j None) (λ digest. digest ≡ g.H.NodeHash.digest slot)) (sym (part_is j c.args.buffer.now))
    (c.digest_together-together.ensures j (omega (arith, c.loop-j-test.true, c.loop-j.auto.j-end, c.requires.few)))
