-- What a list of checks answers.
use Rattle.bt_meta.proofs.Base.{◌≡◌, Bool, true, false, List, [], ◌∷◌, ◌++◌, Option, None, Some, refl, not, first_of, fault_if}
use Rattle.std.specs.Prelude.{⊤}

module _ {E : Type 0} where
  pub first_of-append : (xs ys : List (Option E)) → first_of xs ≡ None → first_of (xs ++ ys) ≡ first_of ys
  first_of-append [] ys e = refl
  first_of-append (None ∷ xs) ys e = first_of-append xs ys e
  first_of-append (Some fault ∷ xs) ys e = cc

  pub first_of-append_some : (xs ys : List (Option E)) (fault : E) → first_of xs ≡ Some fault → first_of (xs ++ ys) ≡ Some fault
  first_of-append_some [] ys fault e = cc
  first_of-append_some (None ∷ xs) ys fault e = first_of-append_some xs ys fault e
  first_of-append_some (Some other ∷ xs) ys fault e = e

  pub skips : (check : Option E) (checks : List (Option E)) → check ≡ None → first_of (check ∷ checks) ≡ first_of checks
  skips check checks e = rw e refl

  pub not_faulty : (test : Bool) (fault : E) → fault_if test fault ≡ None → test ≡ false
  not_faulty true fault e = cc
  not_faulty false fault e = refl

  pub holds_unless : (test : Bool) (fault : E) → fault_if (not test) fault ≡ None → test ≡ true
  holds_unless true fault e = refl
  holds_unless false fault e = cc

  pub first_none : (check : Option E) (checks : List (Option E)) → first_of (check ∷ checks) ≡ None → (check ≡ None) × (first_of checks ≡ None)
  first_none None checks e = (refl, e)
  first_none (Some fault) checks e = cc

  abbrev pub AreNone : List (Option E) → Type 0
  AreNone [] = ⊤
  AreNone (check ∷ checks) = (check ≡ None) × AreNone checks

  pub each_none : (checks : List (Option E)) → first_of checks ≡ None → AreNone checks
  each_none [] h = tt
  each_none (None ∷ checks) h = (refl, each_none checks h)
  each_none (Some fault ∷ checks) h = cc

  pub both_none : (xs ys : List (Option E)) → first_of (xs ++ ys) ≡ None → (first_of xs ≡ None) × (first_of ys ≡ None)
  both_none [] ys h = (refl, h)
  both_none (None ∷ xs) ys h = both_none xs ys h
  both_none (Some fault ∷ xs) ys h = cc
