-- The rounds of one message block, in eight words that stay where they are.
use Rattle.std.proofs.Common.{◌≡◌, ℕ, ◌+◌, List, [], ◌∷◌, length, slice_index, refl, sym}
use Rattle.std.proofs.lemmas.List.{ext_get_or}
use Rattle.sha2.specs.Sha256.{add32, rounds, round_constants}
use Rattle.sha2.proofs.Schedule256.{rounds_next}
use Rattle.bt_lanes.specs.LaneSteps.{temp1_of, temp2_of}
use Rattle.bt_lanes.proofs.LaneWords.{below_eight}

-- the eight words of a list
pub eight_words : (v : List ℕ) → length v ≡ 8
    → slice_index v 0 ∷ slice_index v 1 ∷ slice_index v 2 ∷ slice_index v 3 ∷ slice_index v 4 ∷ slice_index v 5 ∷ slice_index v 6 ∷ slice_index v 7 ∷ [] ≡ v
eight_words v size =
    let words : List ℕ = slice_index v 0 ∷ slice_index v 1 ∷ slice_index v 2 ∷ slice_index v 3 ∷ slice_index v 4 ∷ slice_index v 5 ∷ slice_index v 6 ∷ slice_index v 7 ∷ [] in
    ext_get_or 0 words v (sym size) (λ j lt. below_eight (λ (i : ℕ). slice_index words i ≡ slice_index v i) refl refl refl refl refl refl refl refl j lt)

-- one round more, from its temporary words
pub round_more : {a b c d e f g h first second word : ℕ} (value ws : List ℕ) (t n : ℕ) → n ≡ t + 1
    → a ∷ b ∷ c ∷ d ∷ e ∷ f ∷ g ∷ h ∷ [] ≡ rounds value ws t → word ≡ slice_index ws t
    → first ≡ temp1_of e f g h (slice_index round_constants t) word → second ≡ temp2_of a b c
    → add32 first second ∷ a ∷ b ∷ c ∷ add32 d first ∷ e ∷ f ∷ g ∷ [] ≡ rounds value ws n
round_more value ws t n next before same one two = rw (next, rounds_next value ws t, ← before, one, same, two) refl
