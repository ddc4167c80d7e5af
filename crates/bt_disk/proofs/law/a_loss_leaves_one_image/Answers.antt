use Rattle.bt_disk.proofs.Losses.{leaves_one_image}
use Rattle.bt_disk.proofs.law.a_loss_leaves_one_image.Goals as goal

pub returns : goal.returns
returns c = leaves_one_image
