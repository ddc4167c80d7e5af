use Rattle.std.proofs.Common.{◌-◌, ◌≤◌}
use Rattle.bt_sparse.specs.Unknown.{HoldsLeaves}
use Rattle.bt_sparse.proofs.sparse_tree.SparseTree.next_unknown.Given as goal

-- the leaves so far are held
abbrev pub invariant-loop-leaf : goal.invariant-loop-leaf
invariant-loop-leaf g l = record {
  after : l.from ≤ l.leaf;
  held : HoldsLeaves l.self l.from l.leaf;
}

abbrev pub decreases-loop-leaf : goal.decreases-loop-leaf
decreases-loop-leaf g l = l.blocks - l.leaf
