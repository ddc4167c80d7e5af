use Rattle.std.proofs.Common.{rules}
use Rattle.bt_disk.proofs.pool.HandlePool.new.Goals as goal

pub returns : goal.returns
returns g c = search rules
