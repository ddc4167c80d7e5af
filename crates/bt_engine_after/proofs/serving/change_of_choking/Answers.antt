use Rattle.std.proofs.Common.{rules}
use Rattle.bt_engine_after.proofs.serving.change_of_choking.Goals as goal

pub returns-in-false-false : goal.returns-in-false-false
returns-in-false-false c = search rules
