use Rattle.bt_machine.proofs.Marking.{step_marks}
use Rattle.bt_machine.proofs.law.step_marks_by_bytes.Goals as goal

pub returns : goal.returns
returns g c = step_marks c.adopt_marks_by_bytes.ensures
