-- Lists with one element more, after the others.
use Rattle.std.proofs.Common.{[], ◌≡◌, ℕ, zero, suc, ◌⊎◌, inl, inr, List, ◌∷◌, ◌++◌, length, Some, refl, sym, ap}
use Rattle.std.specs.Prelude.{slice_get}
use Rattle.bt_machine.proofs.Lists.{some_is}

pub nothing_at : {X : Type 0} {x : X} (i : ℕ) → slice_get {X = X} [] i ≡ Some x → ⊥
nothing_at zero e = cc
nothing_at (suc i) e = cc

pub get_kept : {X : Type 0} (xs ys : List X) (i : ℕ) {x : X} → slice_get xs i ≡ Some x → slice_get (xs ++ ys) i ≡ Some x
get_kept [] ys i e = absurd (nothing_at i e)
get_kept (x ∷ xs) ys zero e = e
get_kept (x ∷ xs) ys (suc i) e = get_kept xs ys i e

pub get_last : {X : Type 0} (xs : List X) (x : X) → slice_get (xs ++ x ∷ []) (length xs) ≡ Some x
get_last [] x = refl
get_last (y ∷ xs) x = get_last xs x

pub get_cases : {X : Type 0} (xs : List X) (i : ℕ) {x y : X} → slice_get (xs ++ x ∷ []) i ≡ Some y
    → (slice_get xs i ≡ Some y) ⊎ ((i ≡ length xs) × (y ≡ x))
get_cases [] zero e = inr (refl, some_is (sym e))
get_cases [] (suc i) e = absurd (nothing_at i e)
get_cases (z ∷ xs) zero e = inl e
get_cases (z ∷ xs) (suc i) e = elim (get_cases xs i e) [ inl before ↦ inl before | inr last ↦ inr (ap (λ n. suc n) last.0, last.1) ]
