use Rattle.bt_machine_checks.proofs.Determined.{step_determined}
use Rattle.bt_machine_checks.proofs.left_free.step_is_determined.Goals as goal

pub returns : goal.returns
returns g c = step_determined g.H.NodeHash.digest c.block_ranges_are_places.ensures.place
