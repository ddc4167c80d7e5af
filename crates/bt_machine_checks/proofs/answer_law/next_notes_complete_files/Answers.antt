use Rattle.bt_machine_checks.proofs.AnswerPieces.{next_notes}
use Rattle.bt_machine_checks.proofs.answer_law.next_notes_complete_files.Goals as goal

pub returns : goal.returns
returns g c = next_notes g.H.NodeHash.digest
