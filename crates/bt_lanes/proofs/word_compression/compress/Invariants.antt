use Rattle.std.proofs.Common.{◌≡◌, ℕ, ◌*◌, ◌<◌, List, [], ◌∷◌, slice_index}
use Rattle.sha2.specs.Sha256.{rounds, schedule}
use Rattle.bt_lanes.specs.LaneSteps.{lane_word}
use Rattle.bt_lanes.proofs.word_compression.compress.Given as goal

abbrev pub invariant-rounds : goal.invariant-rounds
invariant-rounds l = (block : List ℕ) → ((k : ℕ) → k < 64 → lane_word l.schedules k l.place ≡ slice_index (schedule block 48) k)
    → l.a ∷ l.b ∷ l.c ∷ l.d ∷ l.e ∷ l.f ∷ l.g ∷ l.h ∷ [] ≡ rounds l.value (schedule block 48) (8 * l.eight_rounds)
