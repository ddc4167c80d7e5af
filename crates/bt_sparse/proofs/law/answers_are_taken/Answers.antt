use Rattle.bt_sparse.proofs.Taken.{answers_are_taken}
use Rattle.bt_sparse.proofs.law.answers_are_taken.Goals as goal

pub returns : goal.returns
returns g c = answers_are_taken g.H.NodeHash.digest
