use Rattle.std.proofs.Common.{rules}
use Rattle.bt_devices.proofs.watched.WatchedDisk.sync.Goals as goal

pub returns-clause-answered : goal.returns-clause-answered
returns-clause-answered g c = search rules
