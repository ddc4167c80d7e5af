use Rattle.bt_machine.proofs.Tame.{writes_missing}
use Rattle.bt_machine.proofs.law.step_writes_missing.Goals as goal

pub returns : goal.returns
returns g c = writes_missing g.H.NodeHash.digest
