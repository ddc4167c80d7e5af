use Rattle.std.proofs.Common.{arith, refl}
use Rattle.sha2.specs.Sha256.{hash_after}
use Rattle.bt_lanes.proofs.single.absorb.Goals as goal

pub absorbed-init : goal.absorbed-init
unfolding hash_after
absorbed-init c = record { within = omega arith; value = refl }
