use Rattle.std.proofs.Common.{◌≡◌, ℕ, ◌/◌, ◌^◌, ◌<◌, None}
use Rattle.bt_sparse.specs.SparseTree.{held_at}
use Rattle.bt_sparse.proofs.sparse_tree.SparseTree.anchor.Given as goal

-- none of the nodes so far is held
abbrev pub invariant-loop-layer : goal.invariant-loop-layer
invariant-loop-layer g l = (k : ℕ) → k < l.layer → held_at l.self k (l.leaf / 2 ^ k) ≡ None
