use Rattle.std.proofs.Common.{rules}
use Rattle.bt_resume.proofs.hint.Hint.can_be_read.Goals as goal

pub returns-in-Some : goal.returns-in-Some
returns-in-Some c = search rules
