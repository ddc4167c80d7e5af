use Rattle.std.proofs.Common.{rules}
use Rattle.bt_disk.proofs.pool.HandlePool.device.Goals as goal

pub returns-clause-device : goal.returns-clause-device
returns-clause-device g c = search rules
