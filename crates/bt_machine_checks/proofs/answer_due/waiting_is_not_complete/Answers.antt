use Rattle.bt_machine_checks.proofs.AnswerBlocks.{waiting_is_not_complete}
use Rattle.bt_machine_checks.proofs.answer_due.waiting_is_not_complete.Goals as goal

pub returns : goal.returns
returns c = waiting_is_not_complete
