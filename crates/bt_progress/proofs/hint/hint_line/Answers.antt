use Rattle.std.proofs.Common.{rules}
use Rattle.bt_progress.proofs.hint.hint_line.Goals as goal

pub returns : goal.returns
returns c = search rules
