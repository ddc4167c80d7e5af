use Rattle.std.proofs.Common.{rules}
use Rattle.bt_disk.proofs.pool.HandlePool.reading.Goals as goal

pub returns-clause-path : goal.returns-clause-path
returns-clause-path g c = search rules
