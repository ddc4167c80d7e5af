use Rattle.std.proofs.Common.{rules}
use Rattle.bt_sparse.proofs.sparse_tree.SparseTree.answer_len.Goals as goal

pub returns-then-is_lawful-clause-size : goal.returns-then-is_lawful-clause-size
returns-then-is_lawful-clause-size g c = search rules
