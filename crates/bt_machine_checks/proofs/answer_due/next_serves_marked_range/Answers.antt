use Rattle.bt_machine_checks.proofs.AnswerBlocks.{next_serves}
use Rattle.bt_machine_checks.proofs.answer_due.next_serves_marked_range.Goals as goal

pub returns : goal.returns
returns g c = next_serves g.H.NodeHash.digest
