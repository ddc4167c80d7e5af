use Rattle.std.proofs.Common.{take}
use Rattle.bt_sparse.specs.AcceptanceSteps.{IsHighestOf}
use Rattle.bt_sparse.proofs.sparse_tree.SparseTree.highest_difference.Given as goal

abbrev pub invariant-loop-pair : goal.invariant-loop-pair
invariant-loop-pair g l = IsHighestOf g.H.NodeHash.digest l.self (take l.pair-index l.pairs) l.highest
