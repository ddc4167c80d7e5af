use Rattle.std.proofs.Common.{rules}
use Rattle.bt_disk.proofs.fault_disk.FaultDisk.flipping.Goals as goal

pub returns : goal.returns
returns g c = search rules
