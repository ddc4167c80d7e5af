use Rattle.std.proofs.Common.{append_assoc, arith}
use Rattle.bt_sparse.proofs.Expansions.{layer_pairs_more, layer_pair}
use Rattle.bt_sparse.proofs.expansion.add_layer.Goals as goal

pub loop-i-preserved : goal.loop-i-preserved
loop-i-preserved c = λ dig k above e nodes.
    let pair = layer_pair dig k above c.args.first c.args.layer c.loop-i.i c.args.nodes.now e nodes (omega arith) in
    rw (c.in_ok-push.ensures.items, c.loop-i.invariant dig k above e nodes, layer_pairs_more dig k above c.args.first c.loop-i.i, ← pair) (simp append_assoc)
