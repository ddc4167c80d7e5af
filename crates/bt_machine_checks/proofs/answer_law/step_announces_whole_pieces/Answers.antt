use Rattle.bt_machine_checks.proofs.AnswerPieces.{step_announces}
use Rattle.bt_machine_checks.proofs.answer_law.step_announces_whole_pieces.Goals as goal

pub returns : goal.returns
returns g c = step_announces g.H.NodeHash.digest
