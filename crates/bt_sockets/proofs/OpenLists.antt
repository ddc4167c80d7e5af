-- Ranges that stand in the front of a list.
use Rattle.std.proofs.Common.{◌≡◌, ℕ, ◌-◌, ◌<◌, ◌≤◌, Option, Some, None, true, List, length, get_or, take, set, swap_remove, sym, ap, ◌∙◌, arith}
use Rattle.std.proofs.lemmas.Bool.{false≢true}
use Rattle.std.proofs.lemmas.List.{get_or-take, length-take-le, take-take}
use Rattle.std.proofs.Math.Seq.{take-set-lt}
use Rattle.std.specs.Prelude.{Contains, HoldsAt, IfSome, is_some}

module _ {X : Type 0} (xs : List X) (n i : ℕ) (d : X) (le : n ≤ length xs) (lt : i < n) where
  -- of these the last one takes the place of the i-th
  pub taken_out : take (n - 1) (set xs i (get_or xs (n - 1) d)) ≡ swap_remove (take n xs) i d
  taken_out =
      let v = get_or xs (n - 1) d in
      let last : get_or (take n xs) (n - 1) d ≡ v = get_or-take n xs (n - 1) d (omega arith) in
      sym (take-take (n - 1) n (set xs i v) (omega arith))
      ∙ ap (take (n - 1)) (take-set-lt n xs i v lt)
      ∙ ap (λ w. take (n - 1) (set (take n xs) i w)) (sym last)
      ∙ ap (λ m. take (m - 1) (set (take n xs) i (get_or (take n xs) (m - 1) d))) (sym (length-take-le n xs le))

-- what was found is there
pub found : {X : Type 0} (xs : List X) (x : X) (r : Option ℕ) → IfSome r (λ i. i < length xs)
    → IfSome r (HoldsAt (λ other. other ≡ x) xs) → is_some r ≡ true → Contains xs x
found xs x (Some i) within here some = (i, within, here x)
found xs x None within here some = absurd (false≢true some)
