use Rattle.std.proofs.Common.{rules}
use Rattle.bt_progress.proofs.meter.Meter.advance.Goals as goal

pub returns-clause-done : goal.returns-clause-done
returns-clause-done c = search rules
