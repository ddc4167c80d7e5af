use Rattle.std.proofs.Common.{subst}
use Rattle.bt_disk.specs.State.{IsImage}
use Rattle.bt_disk.specs.MemoryDisk.{history_of}
use Rattle.bt_disk.specs.ReadsImage.{reads_image}
use Rattle.bt_disk.proofs.Losses.{left_is_image}
use Rattle.bt_disk.proofs.memory_disk.MemoryDisk.after_crash.Goals as goal

pub returns-clause-image : goal.returns-clause-image
returns-clause-image c =
    subst (λ view. IsImage (history_of view.kept).now c.after_crash.result.first) c.self.view_is
    (left_is_image c.args.loss _ _ (reads_image c.self.inside.medium) c.after_crash.ensures.left)
