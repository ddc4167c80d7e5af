use Rattle.std.proofs.Common.{◌/◌, [], get_or, ap, ◌∙◌, append_assoc, arith}
use Rattle.bt_sparse.proofs.Expansions.{path_step, path_pairs_more, path_up}
use Rattle.bt_sparse.proofs.expansion.add_path.Goals as goal

pub loop-uncle-preserved : goal.loop-uncle-preserved
loop-uncle-preserved g c =
    let w = c.loop-uncle.invariant in
    let step = path_step g.H.NodeHash.digest c.args.claim.now c.loop-uncle.uncle-index c.loop-uncle.layer c.loop-uncle.node c.loop-uncle.own _ c.in_order.result
    w.layer w.node w.own (ap (λ us. get_or us c.loop-uncle.uncle-index []) c.as_slice-uncle-items.ensures) c.in_order.ensures in
    record {
      pairs = rw (c.in_ok-push.ensures.items, w.pairs, path_pairs_more g.H.NodeHash.digest c.args.claim.now c.loop-uncle.uncle-index, ← step.pair_is)
          (simp append_assoc);
      own = c.pair-own.ensures ∙ step.digest_is;
      node = ap (λ n. n / 2) w.node ∙ path_up c.args.claim.now c.loop-uncle.uncle-index;
      layer = omega (arith, w.layer);
    }
