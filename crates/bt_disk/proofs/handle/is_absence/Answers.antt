use Rattle.std.proofs.Common.{rules}
use Rattle.bt_disk.proofs.handle.is_absence.Goals as goal

pub returns-in-NotFound : goal.returns-in-NotFound
returns-in-NotFound c = search rules
