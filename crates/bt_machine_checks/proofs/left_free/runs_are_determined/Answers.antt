use Rattle.bt_machine_checks.proofs.Determined.{runs_determined}
use Rattle.bt_machine_checks.proofs.left_free.runs_are_determined.Goals as goal

pub returns : goal.returns
returns g c = runs_determined g.H.NodeHash.digest c.block_ranges_are_places.ensures.place
