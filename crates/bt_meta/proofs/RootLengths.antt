-- What the lengths of roots tell once one length more is noted.
use Rattle.bt_meta.proofs.Base.{◌≡◌, ◌≢◌, ℕ, Bool, true, false, List, Option, None, Some, refl, sym, ap, ◌∙◌, arith, not, ◌&&◌, ◌||◌, ◌==◌, cond, nat_cmp, is_eq, slice_cmp, or-false, list_any-append, ◌++◌, ◌∷◌, [], and_parts, false_from_ne_true, nat_tests, is_eq-slice_cmp, bytes_eq-Decides, Content, is_conflict, Lengths, length_at, is_other_length, NotesLength}
use Rattle.bt_meta.specs.PropertySteps.{HasLengths}
use Rattle.bt_meta.specs.LayerSteps.{AreRight, IsNotedRight}
use Rattle.bt_bencode.specs.Value.{Data}
use Rattle.std.specs.Prelude.{◌⊎◌}
use Rattle.std.proofs.Common.{inl, inr}

module _ (length n : ℕ) where
  at : (b : Bool) (o p : Option ℕ) → is_other_length o length ≡ false → (b ≡ true → o ≡ p)
      → is_other_length (cond b (Some length) p) n ≡ (is_other_length p n || (b && not (length == n)))
  at true None p alike same = rw (← same refl) refl
  at true (Some m) p alike same = rw (← same refl) (grind (arith, nat_tests))
  at false o p alike same = sym (or-false _)

pub noted_now : {old new : Lengths} {root : List ℕ} {length : ℕ} → (length == 0) ≡ false → is_other_length (length_at old root) length ≡ false
    → ((other : List ℕ) → length_at new other ≡ cond (is_eq (slice_cmp nat_cmp root other)) (Some length) (length_at old other))
    → NotesLength old new root length
noted_now {old} {new} {root} {length} some alike noted = record {
  alike = rw (some, alike) refl;
  noted = λ other n.
      let test = is_eq-slice_cmp root other in
      ap (λ o. is_other_length o n) (noted other)
      ∙ at length n _ _ _ alike (λ e. ap (length_at old) ((bytes_eq-Decides root other).0 (sym test ∙ e)))
      ∙ rw (test, some) refl;
}

-- the lengths of one file more
pub lengths_push : {old new : Lengths} (files : List Content) (f : Content) → HasLengths old files → NotesLength old new f.root f.length
    → HasLengths new (files ++ f ∷ [])
lengths_push files f h noted root n = noted.noted root n ∙ rw (h root n, list_any-append, or-false) refl

-- ---- what a root conflict is

module _ (root : List ℕ) (n : ℕ) (other : List ℕ) (m : ℕ) where
  pub no_conflict : is_conflict root n other m ≡ false → m ≢ 0 → other ≡ root → m ≡ n
  no_conflict e some same = let equal = (bytes_eq-Decides _ _).1 same in grind (arith, nat_tests)

  pub conflict_free : (m ≢ 0 → other ≡ root → m ≡ n) → is_conflict root n other m ≡ false
  conflict_free agree = false_from_ne_true _ (λ t.
      let p = and_parts _ _ t in
      let q = and_parts _ _ p.0 in
      let some : m ≢ 0 = grind (arith, nat_tests) in
      let same = agree some ((bytes_eq-Decides _ _).0 q.1) in
      grind (arith, nat_tests))

-- ---- the roots whose layers are right

noted_one : {A : Type 0} (b : Bool) (length n : ℕ) (p o : Option ℕ) → (b ≡ true → A) → o ≡ cond b (Some length) p → o ≡ Some n
    → (p ≡ Some n) ⊎ (A × (n ≡ length))
noted_one true length n p o same e h = let q : Some length ≡ Some n = sym e ∙ h in inr (same refl, cc)
noted_one false length n p o same e h = inl (sym e ∙ h)

pub noted_right : (old new : Lengths) (root : List ℕ) (length : ℕ)
    → ((other : List ℕ) → length_at new other ≡ cond (is_eq (slice_cmp nat_cmp root other)) (Some length) (length_at old other))
    → IsNotedRight old new root length
noted_right old new root length noted other n =
    noted_one _ length n (length_at old other) _ (λ e. sym ((bytes_eq-Decides root other).0 (sym (is_eq-slice_cmp root other) ∙ e))) (noted other)

pub none_right : (n : ℕ) (layers : Data) (none : Lengths) → none.entries ≡ [] → AreRight n layers none
none_right n layers none empty root length h =
    let nothing : length_at none root ≡ None = rw empty refl in
    let q : None ≡ Some length = sym nothing ∙ h in
    cc
