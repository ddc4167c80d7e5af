use Rattle.bt_machine.proofs.Marking.{run_marks}
use Rattle.bt_machine.proofs.law.run_marks_by_bytes.Goals as goal

pub returns : goal.returns
returns g c = run_marks c.adopt_marks_by_bytes.ensures
