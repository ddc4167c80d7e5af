use Rattle.bt_connection.proofs.Passages.{zeros_behind}
use Rattle.bt_connection.proofs.law.zeros_lie_behind_the_end.Goals as goal

pub returns : goal.returns
returns c = zeros_behind
