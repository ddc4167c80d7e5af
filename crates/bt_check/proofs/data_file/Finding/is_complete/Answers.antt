use Rattle.std.proofs.Common.{rules}
use Rattle.bt_check.proofs.data_file.Finding.is_complete.Goals as goal

pub returns-then-not-self : goal.returns-then-not-self
returns-then-not-self c = search rules
