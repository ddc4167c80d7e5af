use Rattle.bt_machine_checks.proofs.AnswerWaits.{next_settles}
use Rattle.bt_machine_checks.proofs.answer_due.next_settles_waiting_blocks.Goals as goal

pub returns : goal.returns
returns g c = next_settles g.H.NodeHash.digest
