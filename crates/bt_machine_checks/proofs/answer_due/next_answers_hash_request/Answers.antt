use Rattle.bt_machine_checks.proofs.AnswerDue.{next_answers}
use Rattle.bt_machine_checks.proofs.answer_due.next_answers_hash_request.Goals as goal

pub returns : goal.returns
returns g c = next_answers g.H.NodeHash.digest
