use Rattle.bt_machine.proofs.Survival.{images_run}
use Rattle.bt_machine.proofs.law.run_keeps_images.Goals as goal

pub returns : goal.returns
returns g c = images_run g.D.Disk.conduct g.H.NodeHash.digest c.adopt_marks_by_bytes.ensures c.calls_keep_bytes.ensures.later g.met.D.Disk.reads_image
