use Rattle.bt_machine_checks.proofs.AnswerCauses.{step_closes}
use Rattle.bt_machine_checks.proofs.answer_law.step_closes_for_cause.Goals as goal

pub returns : goal.returns
returns g c = step_closes g.H.NodeHash.digest
