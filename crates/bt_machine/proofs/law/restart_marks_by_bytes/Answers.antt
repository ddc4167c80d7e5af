use Rattle.bt_machine.proofs.Restarts.{restart_marks}
use Rattle.bt_machine.proofs.law.restart_marks_by_bytes.Goals as goal

pub returns : goal.returns
returns g c = restart_marks g.H.NodeHash.digest
