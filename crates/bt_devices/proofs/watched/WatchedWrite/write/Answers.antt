use Rattle.std.proofs.Common.{rules}
use Rattle.bt_devices.proofs.watched.WatchedWrite.write.Goals as goal

pub returns-clause-bytes : goal.returns-clause-bytes
returns-clause-bytes g c = search rules
