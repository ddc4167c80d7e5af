-- The message schedules of eight message blocks, row by row.
use Rattle.std.proofs.Common.{◌≡◌, ℕ, ◌+◌, ◌-◌, ◌<◌, ◌≤◌, List, [], length, slice_index, slice_set, arith, refl, sym, ap, ◌∙◌, below_more}
use Rattle.std.proofs.lemmas.List.{get_or-set_other, get_or-set_same}
use Rattle.sha2.specs.Sha256.{next_word, schedule}
use Rattle.sha2.proofs.Schedule256.{slice_index-schedule_first, slice_index-schedule_next}
use Rattle.bt_lanes.specs.LaneSteps.{lane_word, lane_of, IsBlockWords}
use Rattle.bt_lanes.proofs.LaneWords.{slice_index-lane_of}

-- one row more
pub row_more : (f : ℕ → ℕ) (rows : List (List ℕ)) (t j : ℕ) (row : List ℕ) → t < length rows
    → ((k : ℕ) → k < t → lane_word rows k j ≡ f k) → slice_index row j ≡ f t
    → (k : ℕ) → k < t + 1 → lane_word (slice_set rows t row) k j ≡ f k
row_more f rows t j row within before here = below_more _ _
    (λ k lt. ap (λ (r : List ℕ). slice_index r j) (get_or-set_other rows t k row [] (λ e. absurd (omega arith))) ∙ before k lt)
    (ap (λ (r : List ℕ). slice_index r j) (get_or-set_same rows t row [] within) ∙ here)

-- the next word hangs on those before it
next_same : (w ws : List ℕ) (t : ℕ) → 16 ≤ t → ((k : ℕ) → k < t → slice_index w k ≡ slice_index ws k) → next_word w t ≡ next_word ws t
next_same w ws t from same =
    rw (same (t - 2) (omega arith), same (t - 7) (omega arith), same (t - 15) (omega arith), same (t - 16) (omega arith)) refl

-- the first words are the block's
pub first_word : (block words : List ℕ) (k : ℕ) → k < 16 → IsBlockWords block words → slice_index words k ≡ slice_index (schedule block 48) k
first_word block words k lt is = is.each k lt ∙ sym (slice_index-schedule_first block 48 k lt)

pub next_is : (block : List ℕ) (rows : List (List ℕ)) (t j word : ℕ) → 16 ≤ t → t < 64
    → ((k : ℕ) → k < t → lane_word rows k j ≡ slice_index (schedule block 48) k)
    → word ≡ next_word (lane_of j rows) t → word ≡ slice_index (schedule block 48) t
next_is block rows t j word from below before next =
    next ∙ next_same (lane_of j rows) (schedule block 48) t from (λ k lt. slice_index-lane_of rows j k ∙ before k lt)
    ∙ sym (slice_index-schedule_next block 48 t from (omega arith))
