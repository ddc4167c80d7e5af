use Rattle.std.proofs.Common.{◌≡◌, ◌*◌, length, take}
use Rattle.sha2.specs.Sha256.{digest_bytes}
use Rattle.bt_lanes.specs.LaneSteps.{lane_of_eight}
use Rattle.bt_lanes.proofs.digest.digest.Given as goal

abbrev pub invariant-words : goal.invariant-words
invariant-words l = (length l.digest ≡ 32) × (take (4 * l.i) l.digest ≡ digest_bytes (lane_of_eight l.lane l.words) l.i)
