use Rattle.bt_sparse.proofs.Answers.{answers_agree}
use Rattle.bt_sparse.proofs.Taken.{agree}
use Rattle.bt_sparse.proofs.law.answers_agree.Goals as goal

pub returns-clause-claims : goal.returns-clause-claims
returns-clause-claims g c = answers_agree g.H.NodeHash.digest

pub returns-clause-answers : goal.returns-clause-answers
returns-clause-answers g c = agree g.H.NodeHash.digest
