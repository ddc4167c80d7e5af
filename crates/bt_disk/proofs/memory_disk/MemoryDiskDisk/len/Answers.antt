use Rattle.std.proofs.Common.{rules}
use Rattle.bt_disk.proofs.memory_disk.MemoryDiskDisk.len.Goals as goal

pub returns-clause-answered : goal.returns-clause-answered
returns-clause-answered c = search rules
