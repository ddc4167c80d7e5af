-- The words in a lane, of vectors that are read and set one by one.
use Rattle.std.proofs.Common.{◌≡◌, ℕ, zero, suc, ◌+◌, ◌-◌, ◌<◌, inl, inr, List, [], slice_index, slice_set, arith, refl}
use Rattle.std.proofs.lemmas.List.{map-set}
use Rattle.std.proofs.Math.ListN.{get_or-map}
use Rattle.std.proofs.lemmas.Bool.{cases_lt}
use Rattle.bt_lanes.specs.LaneSteps.{lane_word, lane_of, lane_of_eight}

pub slice_index-lane_of : (vectors : List (List ℕ)) (j i : ℕ) → slice_index (lane_of j vectors) i ≡ lane_word vectors i j
slice_index-lane_of vectors j i = get_or-map (λ vector. slice_index vector j) vectors i []

pub lane_of-set : (vectors : List (List ℕ)) (j i : ℕ) (vector : List ℕ)
    → lane_of j (slice_set vectors i vector) ≡ slice_set (lane_of j vectors) i (slice_index vector j)
lane_of-set vectors j i vector = map-set (λ v. slice_index v j) vectors i vector

pub below_eight : (P : ℕ → Type 0) → P 0 → P 1 → P 2 → P 3 → P 4 → P 5 → P 6 → P 7 → (j : ℕ) → j < 8 → P j
below_eight P p0 p1 p2 p3 p4 p5 p6 p7 zero h = p0
below_eight P p0 p1 p2 p3 p4 p5 p6 p7 (suc zero) h = p1
below_eight P p0 p1 p2 p3 p4 p5 p6 p7 (suc (suc zero)) h = p2
below_eight P p0 p1 p2 p3 p4 p5 p6 p7 (suc (suc (suc zero))) h = p3
below_eight P p0 p1 p2 p3 p4 p5 p6 p7 (suc (suc (suc (suc zero)))) h = p4
below_eight P p0 p1 p2 p3 p4 p5 p6 p7 (suc (suc (suc (suc (suc zero))))) h = p5
below_eight P p0 p1 p2 p3 p4 p5 p6 p7 (suc (suc (suc (suc (suc (suc zero)))))) h = p6
below_eight P p0 p1 p2 p3 p4 p5 p6 p7 (suc (suc (suc (suc (suc (suc (suc zero))))))) h = p7
below_eight P p0 p1 p2 p3 p4 p5 p6 p7 (suc (suc (suc (suc (suc (suc (suc (suc n)))))))) h = absurd (omega arith)

pub slice_index-lane_of_eight : (vectors : List (List ℕ)) (j i : ℕ) → i < 8 → slice_index (lane_of_eight j vectors) i ≡ lane_word vectors i j
slice_index-lane_of_eight vectors j = below_eight _ refl refl refl refl refl refl refl refl

-- below sixteen: one of the first eight, or one of the other eight
pub below_sixteen : (P : ℕ → Type 0) → ((i : ℕ) → i < 8 → P i) → ((i : ℕ) → i < 8 → P (8 + i)) → (k : ℕ) → k < 16 → P k
below_sixteen P low high k lt = elim (cases_lt k 8) [
  | inl below ↦ low k below
  | inr above ↦ let same : 8 + (k - 8) ≡ k = omega arith in rw same at (high (k - 8) (omega arith))
]
