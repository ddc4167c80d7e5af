use Rattle.bt_machine.proofs.Unmarks.{run_marks_kept}
use Rattle.bt_machine.proofs.law.run_keeps_marks.Goals as goal

pub returns : goal.returns
returns g c = run_marks_kept g.D.Disk.conduct g.H.NodeHash.digest c.adopt_marks_by_bytes.ensures
