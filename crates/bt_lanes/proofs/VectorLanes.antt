-- An operator on vectors of eight words, at one of their lanes.
use Rattle.std.proofs.Common.{◌≡◌, ℕ, ◌<◌, List, [], ◌∷◌, map, length, slice_index, arith, sym, ◌∙◌}
use Rattle.std.proofs.lemmas.Simd.{length-zip2, get_or-zip2, get_or-replicate}
use Rattle.std.proofs.lemmas.List.{get_or-map, length-map}
use Rattle.std.specs.Simd.Lanes.{zip2}

pub length_of_zip2 : (f : ℕ → ℕ → ℕ) (xs ys : List ℕ) → length xs ≡ 8 → length ys ≡ 8 → length (zip2 f xs ys) ≡ 8
length_of_zip2 f xs ys lx ly = length-zip2 f xs ys (lx ∙ sym ly) ∙ lx

pub length_of_map : (f : ℕ → ℕ) (xs : List ℕ) → length xs ≡ 8 → length (map f xs) ≡ 8
length_of_map f xs lx = length-map xs f ∙ lx

pub lane_of_zip2 : (f : ℕ → ℕ → ℕ) (xs ys : List ℕ) (j : ℕ) → length xs ≡ 8 → length ys ≡ 8 → j < 8
    → slice_index (zip2 f xs ys) j ≡ f (slice_index xs j) (slice_index ys j)
lane_of_zip2 f xs ys j lx ly lt = get_or-zip2 f xs ys j 0 0 0 (omega arith) (omega arith)

pub lane_of_map : (f : ℕ → ℕ) (xs : List ℕ) (j : ℕ) → length xs ≡ 8 → j < 8 → slice_index (map f xs) j ≡ f (slice_index xs j)
lane_of_map f xs j lx lt = get_or-map f xs j 0 0 (omega arith)

pub lane_of_splat : (k j : ℕ) → j < 8 → slice_index (k ∷ k ∷ k ∷ k ∷ k ∷ k ∷ k ∷ k ∷ []) j ≡ k
lane_of_splat k j lt = get_or-replicate 8 j k 0 lt

pub ruleset lanes = (length_of_zip2, length_of_map, lane_of_zip2, lane_of_map, lane_of_splat)
