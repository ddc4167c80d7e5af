use Rattle.bt_machine.proofs.Orderly.{order_of_runs}
use Rattle.bt_machine.proofs.law.runs_are_orderly.Goals as goal

pub returns : goal.returns
returns g c = order_of_runs g.H.NodeHash.digest
