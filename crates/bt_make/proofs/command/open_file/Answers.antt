use Rattle.std.proofs.Common.{rules}
use Rattle.bt_make.proofs.command.open_file.Goals as goal

pub returns-in_default : goal.returns-in_default
returns-in_default g c = search rules
