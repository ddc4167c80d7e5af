use Rattle.std.proofs.Common.{rules}
use Rattle.bt_devices.proofs.disk.ReadAheadDisk.count.Goals as goal

pub returns-then-is_err : goal.returns-then-is_err
returns-then-is_err g c = search rules
