use Rattle.bt_machine.proofs.Marking.{start_marks}
use Rattle.bt_machine.proofs.law.start_marks_by_bytes.Goals as goal

pub returns : goal.returns
returns g c = start_marks g.H.NodeHash.digest
