use Rattle.std.proofs.Common.{rules}
use Rattle.bt_disk.proofs.fault_disk.FaultDiskDisk.write_at.Goals as goal

pub returns-then-fails-clause-fails : goal.returns-then-fails-clause-fails
returns-then-fails-clause-fails g c = search rules

pub returns-then-fails-clause-counted : goal.returns-then-fails-clause-counted
returns-then-fails-clause-counted g c = search rules

pub returns-then-fails-clause-answered : goal.returns-then-fails-clause-answered
returns-then-fails-clause-answered g c = search rules
