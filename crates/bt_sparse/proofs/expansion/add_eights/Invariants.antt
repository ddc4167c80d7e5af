use Rattle.std.proofs.Common.{◌*◌}
use Rattle.bt_sparse.specs.ExpansionSteps.{AreParents}
use Rattle.bt_sparse.proofs.expansion.add_eights.Given as goal

abbrev pub invariant-loop-sixteen : goal.invariant-loop-sixteen
invariant-loop-sixteen g l = AreParents g.H.NodeHash.digest l.nodes l.above.items (l.sixteen-index * 8)
