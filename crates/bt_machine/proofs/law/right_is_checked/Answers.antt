use Rattle.bt_machine.proofs.Rooted.{right_checked}
use Rattle.bt_machine.proofs.law.right_is_checked.Goals as goal

pub returns : goal.returns
returns g c = right_checked {dig = g.H.NodeHash.digest} c.held_is_checked.ensures
