-- Vectors of eight words whose lanes are taken in turns, and moved to other vectors.
use Rattle.std.proofs.Common.{◌≡◌, ℕ, zero, suc, ◌+◌, ◌-◌, ◌*◌, ◌%◌, ◌<◌, List, [], ◌∷◌, ◌++◌, length, slice_index, slice_index_or, arith, sym, ap, ◌∙◌}
use Rattle.std.proofs.lemmas.List.{get_or_append_left, get_or-append_right}
use Rattle.bt_lanes.specs.LaneSteps.{lane_word}

pub lane_of_first : (a b : List ℕ) (k : ℕ) → length a ≡ 8 → k < 8 → slice_index (a ++ b) k ≡ slice_index a k
lane_of_first a b k la lt = get_or_append_left a b 0 k (omega arith)

pub lane_of_second : (a b : List ℕ) (k : ℕ) → length a ≡ 8 → slice_index (a ++ b) (8 + k) ≡ slice_index b k
lane_of_second a b k la =
    let rest : 8 + k - 8 ≡ k = omega arith in
    get_or-append_right a b 8 (8 + k) 0 la (omega arith) ∙ ap (slice_index b) rest

-- the words of one of two vectors, by its number in the list of all
one_by_number : (vectors : List (List ℕ)) (i b n : ℕ) → b < 2
    → lane_word (slice_index_or vectors i [] ∷ slice_index_or vectors (4 + i) [] ∷ []) b n ≡ lane_word vectors (i + 4 * b) n
one_by_number vectors i zero n lt = let same : i + 4 * 0 ≡ i = omega arith in ap (λ k. lane_word vectors k n) (sym same)
one_by_number vectors i (suc zero) n lt = let same : i + 4 * 1 ≡ 4 + i = omega arith in ap (λ k. lane_word vectors k n) (sym same)
one_by_number vectors i (suc (suc b)) n lt = absurd (omega arith)

pub one_of_two : (vectors : List (List ℕ)) (i j n m : ℕ) → n ≡ m
    → lane_word (slice_index_or vectors i [] ∷ slice_index_or vectors (4 + i) [] ∷ []) (j % 2) n ≡ lane_word vectors (i + 4 * (j % 2)) m
one_of_two vectors i j n m e = one_by_number vectors i (j % 2) n (omega arith) ∙ ap (lane_word vectors (i + 4 * (j % 2))) e
