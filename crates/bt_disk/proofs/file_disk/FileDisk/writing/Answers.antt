use Rattle.std.proofs.Common.{rules}
use Rattle.bt_disk.proofs.file_disk.FileDisk.writing.Goals as goal

pub returns-clause-ok : goal.returns-clause-ok
returns-clause-ok g c = search rules
