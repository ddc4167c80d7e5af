use Rattle.std.proofs.Common.{rules}
use Rattle.bt_check.proofs.call_fault.is_device_fault.Goals as goal

pub returns-in-Err : goal.returns-in-Err
returns-in-Err g c = search rules
