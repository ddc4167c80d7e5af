use Rattle.bt_machine_checks.proofs.AnswerMarks.{next_notes_marked}
use Rattle.bt_machine_checks.proofs.answer_due.next_notes_marked_blocks.Goals as goal

pub returns : goal.returns
returns g c = next_notes_marked g.H.NodeHash.digest
