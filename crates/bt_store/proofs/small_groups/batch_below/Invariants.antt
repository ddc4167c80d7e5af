use Rattle.std.proofs.Common.{ℕ, ◌+◌, ◌<◌, ◌≤◌}
use Rattle.bt_sparse.specs.SparseTree.{blocks_of}
use Rattle.bt_sparse.specs.Anchor.{IsAnchor}
use Rattle.bt_store.proofs.small_groups.batch_below.Given as goal

abbrev pub invariant-loop-count : goal.invariant-loop-count
invariant-loop-count g l = record {
  inside : l.from + l.count ≤ blocks_of l.tree;
  nearest : (j : ℕ) → j < l.count → IsAnchor l.tree (l.from + j) l.anchor;
}
