use Rattle.bt_machine.proofs.Crash.{images_kept}
use Rattle.bt_machine.proofs.law.step_keeps_images.Goals as goal

pub returns : goal.returns
returns g c = images_kept g.D.Disk.conduct g.H.NodeHash.digest c.calls_keep_bytes.ensures.later g.met.D.Disk.reads_image
