use Rattle.std.proofs.Common.{◌≡◌, ℕ, ◌<◌, List, length, slice_index}
use Rattle.sha2.specs.Sha256.{schedule}
use Rattle.bt_lanes.specs.LaneSteps.{lane_word, lane_of, IsBlockWords}
use Rattle.bt_lanes.proofs.schedules.schedules.Given as goal

abbrev pub invariant-first : goal.invariant-first
invariant-first l = record {
  size : length l.schedules ≡ 64;
  words : (j k : ℕ) → k < l.t → lane_word l.schedules k j ≡ lane_word l.blocks k j;
}

abbrev pub invariant-rest : goal.invariant-rest
invariant-rest l = record {
  size : length l.schedules ≡ 64;
  words : (j k : ℕ) (block : List ℕ) → j < 8 → k < l.t → IsBlockWords block (lane_of j l.blocks)
      → lane_word l.schedules k j ≡ slice_index (schedule block 48) k;
}
