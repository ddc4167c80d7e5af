use Rattle.bt_sparse.specs.ExpansionSteps.{AreParents}
use Rattle.bt_sparse.proofs.expansion.parents.Given as goal

abbrev pub invariant-loop-i : goal.invariant-loop-i
invariant-loop-i g l = AreParents g.H.NodeHash.digest l.nodes l.above.items l.i
