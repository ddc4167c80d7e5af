use Rattle.std.proofs.Common.{rules}
use Rattle.bt_disk.proofs.handle.read_file.Goals as goal

pub returns-in-Ok-clause-gives : goal.returns-in-Ok-clause-gives
returns-in-Ok-clause-gives g c = search rules
