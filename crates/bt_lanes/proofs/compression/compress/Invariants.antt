use Rattle.std.proofs.Common.{◌≡◌, ℕ, ◌*◌, ◌<◌, List}
use Rattle.sha2.specs.Sha256.{rounds, schedule, IsRoundsAt}
use Rattle.bt_lanes.specs.LaneSteps.{lane_of, lane_of_eight, IsBlockWords}
use Rattle.bt_lanes.proofs.compression.compress.Given as goal

abbrev pub invariant-first : goal.invariant-first
invariant-first l = (j : ℕ) (block : List ℕ) → j < 8 → IsBlockWords block (lane_of j l.blocks)
    → lane_of_eight j l.variables ≡ rounds (lane_of_eight j l.values) (schedule block 48) (4 * l.four)

abbrev pub invariant-rest : goal.invariant-rest
invariant-rest l = (j : ℕ) (block : List ℕ) → j < 8 → IsBlockWords block (lane_of j l.blocks)
    → IsRoundsAt block (lane_of_eight j l.values) (lane_of j l.schedule) (lane_of_eight j l.variables) (4 * l.four)
