use Rattle.std.proofs.Common.{ℕ, ◌+◌, ◌<◌, ◌≤◌}
use Rattle.std.specs.Prelude.{IsSome}
use Rattle.bt_sparse.specs.SparseTree.{blocks_of, value_at}
use Rattle.bt_store.proofs.groups.known_batch.Given as goal

abbrev pub invariant-loop-count : goal.invariant-loop-count
invariant-loop-count g l = record {
  inside : l.from + l.count ≤ blocks_of l.tree;
  known : (j : ℕ) → j < l.count → IsSome (value_at g.H.NodeHash.digest l.tree 0 (l.from + j));
}
