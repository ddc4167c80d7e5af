use Rattle.std.proofs.Common.{rules}
use Rattle.bt_progress.proofs.screen.is_due.Goals as goal

pub returns : goal.returns
returns c = search rules
