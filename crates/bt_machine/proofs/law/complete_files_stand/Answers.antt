use Rattle.bt_machine.proofs.Sound.{complete_stands}
use Rattle.bt_machine.proofs.law.complete_files_stand.Goals as goal

pub returns : goal.returns
returns g c = complete_stands g.D.Disk.conduct g.H.NodeHash.digest
