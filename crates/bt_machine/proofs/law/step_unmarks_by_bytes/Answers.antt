use Rattle.bt_machine.proofs.Unmarks.{step_unmarks}
use Rattle.bt_machine.proofs.law.step_unmarks_by_bytes.Goals as goal

pub returns : goal.returns
returns g c = step_unmarks g.H.NodeHash.digest
