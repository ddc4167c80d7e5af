use Rattle.std.proofs.Common.{rules}
use Rattle.bt_disk.proofs.fault_disk.FaultDiskDisk.set_len.Goals as goal

pub returns-clause-passes : goal.returns-clause-passes
returns-clause-passes g c = search rules

pub returns-clause-answered : goal.returns-clause-answered
returns-clause-answered g c = search rules
