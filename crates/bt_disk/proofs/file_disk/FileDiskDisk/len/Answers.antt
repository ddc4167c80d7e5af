use Rattle.std.proofs.Common.{rules}
use Rattle.bt_disk.proofs.file_disk.FileDiskDisk.len.Goals as goal

pub returns-in-Ok-clause-absent : goal.returns-in-Ok-clause-absent
returns-in-Ok-clause-absent g c = search rules

pub returns-in-Ok-clause-counted : goal.returns-in-Ok-clause-counted
returns-in-Ok-clause-counted g c = search rules
