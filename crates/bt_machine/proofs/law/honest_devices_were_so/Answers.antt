use Rattle.bt_machine.proofs.Unmarks.{device_before}
use Rattle.bt_machine.proofs.law.honest_devices_were_so.Goals as goal

pub returns : goal.returns
returns g c = λ old new events calls answers disks after file e.
    device_before g.D.Disk.conduct g.H.NodeHash.digest old new events calls answers disks after file
