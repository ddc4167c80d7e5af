use Rattle.std.proofs.Common.{◌≢◌, ℕ, ◌<◌, None}
use Rattle.bt_sparse.specs.SparseTree.{value_at}
use Rattle.bt_sparse.specs.Answer.{answer_layer, answer_index}
use Rattle.bt_sparse.proofs.sparse_tree.SparseTree.knows_all.Given as goal

abbrev pub invariant-loop-t : goal.invariant-loop-t
invariant-loop-t g l = (s : ℕ) → s < l.t
    → value_at g.H.NodeHash.digest l.self (answer_layer l.request.base l.request.length s) (answer_index l.request.index l.request.length s) ≢ None
