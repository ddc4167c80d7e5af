use Rattle.std.proofs.Common.{ℕ, ◌/◌, List, [], length, get_or, rules, ap, arith}
use Rattle.bt_sparse.proofs.Parents.{eight_more}
use Rattle.bt_sparse.proofs.expansion.add_eights.Goals as goal

pub loop-sixteen-preserved : goal.loop-sixteen-preserved
loop-sixteen-preserved g c =
    eight_more g.H.NodeHash.digest c.args.nodes.now c.loop-sixteen.above.items _ c.eight_parents.result _ (length c.args.nodes.now / 16) c.loop-sixteen.sixteen-index
    c.loop-sixteen.invariant c.in_ok-extend_from_slice.ensures.items (search rules) (omega (arith, c.loop-sixteen-test.true, c.as_chunks.ensures.front_len))
    (ap (λ (chunks : List (List (List ℕ))). get_or chunks c.loop-sixteen.sixteen-index []) c.as_chunks.ensures.front) c.eight_parents.ensures
