use Rattle.bt_meta.proofs.Base.{length}
use Rattle.bt_meta.proofs.encode.+folder_with.Given as goal

abbrev pub decreases-folder_with : goal.decreases-folder_with
decreases-folder_with l = length l.path.now
