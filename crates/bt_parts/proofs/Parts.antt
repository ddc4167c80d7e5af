-- Lemmas on the parts of a text.
use Rattle.std.proofs.Common.{[], ◌≡◌, ℕ, ◌+◌, ◌-◌, ◌<◌, ◌≤◌, Bool, cond, nat_lt, List, ◌∷◌, Some, None, length, take, drop, sym, ap, subst, ◌∙◌, arith}
use Rattle.std.specs.Prelude.{position}
use Rattle.std.specs.List.{slice_split, position_or_len}
use Rattle.std.proofs.lemmas.Bool.Decides.{nat_tests}
use Rattle.std.proofs.lemmas.List.{take_rest}
use Rattle.std.proofs.lemmas.List.Quantifiers.{position-Some}
use Rattle.std.proofs.lemmas.List.Splits.{slice_split_first, slice_split_none}
use Rattle.std.proofs.lemmas.List.Sums.{position_or_len_is, fails_before_first}

-- a text whose first mark stands at i
pub cut_at : (p : ℕ → Bool) (xs : List ℕ) (i : ℕ) → position p xs ≡ Some i
    → slice_split p xs ≡ take i xs ∷ slice_split p (take (length xs - (i + 1)) (drop (i + 1) xs))
cut_at p xs i e =
    let h = position-Some p xs i 0 e in
    let at : position_or_len p xs ≡ i = position_or_len_is p xs i 0 (omega (arith, h.0)) h.2 (λ _. h.1) in
    let within : position_or_len p xs < length xs = subst (λ (n : ℕ). n < length xs) (sym at) h.0 in
    slice_split_first p xs 0 within
    ∙ ap (λ n. take n xs ∷ slice_split p (drop (n + 1) xs)) at
    ∙ ap (λ rest. take i xs ∷ slice_split p rest) (sym (take_rest xs (i + 1)))

none_past : (m n : ℕ) → cond (nat_lt m n) (Some m) None ≡ None → n ≤ m
none_past m n e = grind (arith, nat_tests)

-- a text without a mark
pub not_cut : (p : ℕ → Bool) (xs : List ℕ) → position p xs ≡ None → slice_split p xs ≡ xs ∷ []
not_cut p xs e =
    let past : length xs ≤ position_or_len p xs = none_past _ _ e in
    slice_split_none p xs (λ k d h. fails_before_first p xs k d (omega arith))
