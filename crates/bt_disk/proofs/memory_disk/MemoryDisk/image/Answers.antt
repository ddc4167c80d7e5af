use Rattle.std.proofs.Common.{subst}
use Rattle.std.proofs.lemmas.Result.{IfOk-weaker}
use Rattle.bt_disk.specs.State.{IsImage}
use Rattle.bt_disk.specs.MemoryDisk.{history_of, IsLeftBy}
use Rattle.bt_disk.specs.ReadsImage.{reads_image}
use Rattle.bt_disk.proofs.Losses.{left_is_image}
use Rattle.bt_disk.proofs.memory_disk.MemoryDisk.image.Goals as goal

pub returns-clause-image : goal.returns-clause-image
returns-clause-image c =
    IfOk-weaker c.image.result (λ image. IsLeftBy c.args.loss (history_of c.self.inside.medium).now image.items)
    (λ image. IsImage (history_of c.args.self.now.kept).now image.items)
    (λ image left. subst (λ view. IsImage (history_of view.kept).now image.items) c.self.view_is
    (left_is_image c.args.loss _ _ (reads_image c.self.inside.medium) left))
    c.image.ensures
