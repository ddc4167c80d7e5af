use Rattle.bt_sparse.specs.NodeMap.{nodes_in}
use Rattle.bt_sparse.specs.LayerSteps.{AreKnown}
use Rattle.bt_sparse.proofs.layer.children.Given as goal

abbrev pub invariant-loop-i : goal.invariant-loop-i
invariant-loop-i l = AreKnown (nodes_in l.nodes) l.layer l.first l.padding l.list.items l.i
