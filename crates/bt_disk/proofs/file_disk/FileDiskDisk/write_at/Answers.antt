use Rattle.std.proofs.Common.{rules}
use Rattle.bt_disk.proofs.file_disk.FileDiskDisk.write_at.Goals as goal

pub returns-clause-refused : goal.returns-clause-refused
returns-clause-refused g c = search rules

pub returns-clause-access : goal.returns-clause-access
returns-clause-access g c = search rules

pub returns-2-clause-access : goal.returns-2-clause-access
returns-2-clause-access g c = search rules
