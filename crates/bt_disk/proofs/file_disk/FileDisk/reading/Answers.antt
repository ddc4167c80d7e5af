use Rattle.std.proofs.Common.{rules}
use Rattle.bt_disk.proofs.file_disk.FileDisk.reading.Goals as goal

pub returns-clause-access : goal.returns-clause-access
returns-clause-access g c = search rules
