use Rattle.bt_machine_checks.proofs.Determined.{step_forced}
use Rattle.bt_machine_checks.proofs.left_free.step_is_forced.Goals as goal

pub returns : goal.returns
returns g c = step_forced g.H.NodeHash.digest c.block_ranges_are_places.ensures.place
