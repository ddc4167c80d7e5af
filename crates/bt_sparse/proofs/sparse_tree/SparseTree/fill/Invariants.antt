use Rattle.std.proofs.Common.{◌≡◌, ℕ, ◌<◌, ◌≤◌, Some, get_or, []}
use Rattle.bt_sparse.specs.SparseTree.{value_at}
use Rattle.bt_sparse.specs.Answer.{answer_layer, answer_index}
use Rattle.bt_sparse.proofs.sparse_tree.SparseTree.fill.Given as goal

abbrev pub invariant-loop-t : goal.invariant-loop-t
invariant-loop-t g l = record {
  low : l.padding ≤ answer_layer l.request.base l.request.length l.t;
  values : (s : ℕ) → s < l.t
      → value_at g.H.NodeHash.digest l.self (answer_layer l.request.base l.request.length s) (answer_index l.request.index l.request.length s)
      ≡ Some (get_or l.digests s []);
}
