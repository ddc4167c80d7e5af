use Rattle.std.proofs.Common.{◌≡◌, ℕ, ◌<◌}
use Rattle.sha2.specs.Sha256.{hash_after}
use Rattle.bt_lanes.specs.LaneSteps.{lane_of_eight, message_at}
use Rattle.bt_lanes.proofs.message_blocks.absorb.Given as goal

abbrev pub invariant-absorbed : goal.invariant-absorbed
invariant-absorbed l = (j : ℕ) → j < 8
    → lane_of_eight j l.values ≡ hash_after (lane_of_eight j l.fn.values) (message_at l.messages j) l.i
