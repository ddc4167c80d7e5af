use Rattle.std.proofs.Common.{arith}
use Rattle.std.proofs.lemmas.Grind.{common_steps}
use Rattle.bt_disk.proofs.memory_disk.MemoryDiskDisk.read_at.Goals as goal

pub returns-clause-answered : goal.returns-clause-answered
returns-clause-answered c = grind (arith, common_steps)
