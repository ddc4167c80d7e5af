-- Roots and their numbers, where a root more gets the next one.
use Rattle.bt_machine.proofs.Base.{[], ◌≡◌, ℕ, inl, inr, Bool, true, false, cond, List, ◌∷◌, ◌++◌, length, Some, None, refl, sym, ap, ◌∙◌, slice_get}
use Rattle.std.specs.Ordering.{is_eq, nat_cmp}
use Rattle.std.specs.Cmp.Lexicographic.{slice_cmp}
use Rattle.std.specs.BTreeMap.{Updates, IsEmpty, is_at}
use Rattle.std.specs.Map.{lookup}
use Rattle.std.proofs.lemmas.Map.Text.{is_eq-slice_cmp}
use Rattle.std.proofs.lemmas.Slice.Eq.{bytes_eq-Decides}
use Rattle.bt_machine.proofs.Lists.{some_is}
use Rattle.bt_engine_state.specs.Roots.{Numbers, number_of, AreNumbered}
use Rattle.bt_engine_start.proofs.Pushes.{nothing_at, get_kept, get_last, get_cases}

module _ (numbers : Numbers) (empty : IsEmpty numbers) where
  pub no_number : (root : List ℕ) → number_of numbers root ≡ None
  no_number root = ap (λ (es : List (List ℕ × ℕ)). lookup (is_at (slice_cmp nat_cmp root)) es) empty

  pub none_numbered : AreNumbered [] numbers
  none_numbered t root = (λ has. absurd (let clash = sym (no_number root) ∙ has in cc), λ at. absurd (nothing_at t at))

-- a root that has no number gets the next
module _ (roots : List (List ℕ)) (old new : Numbers) (root : List ℕ) (are : AreNumbered roots old) (none : number_of old root ≡ None)
    (update : Updates (slice_cmp nat_cmp) old new root (Some (length roots))) where
  is_own : (other : List ℕ) → is_eq (slice_cmp nat_cmp root other) ≡ true → root ≡ other
  is_own other e = (bytes_eq-Decides root other).0 (sym (is_eq-slice_cmp root other) ∙ e)

  kept_by : (other : List ℕ) {t : ℕ} (b : Bool) → is_eq (slice_cmp nat_cmp root other) ≡ b → number_of old other ≡ Some t → number_of new other ≡ Some t
  kept_by other true e has = absurd (let clash = sym none ∙ ap (λ r. number_of old r) (is_own other e) ∙ has in cc)
  kept_by other false e has = update.0 other ∙ ap (λ b. cond b (Some (length roots)) (number_of old other)) e ∙ has

  pub number_kept : (other : List ℕ) {t : ℕ} → number_of old other ≡ Some t → number_of new other ≡ Some t
  number_kept other has = kept_by other (is_eq (slice_cmp nat_cmp root other)) refl has

  is_named : (other : List ℕ) (t : ℕ) (b : Bool) → is_eq (slice_cmp nat_cmp root other) ≡ b → number_of new other ≡ Some t
      → slice_get (roots ++ root ∷ []) t ≡ Some other
  is_named other t true e has =
      let at : length roots ≡ t = some_is (sym (update.0 other ∙ ap (λ b. cond b (Some (length roots)) (number_of old other)) e) ∙ has) in
      ap (λ n. slice_get (roots ++ root ∷ []) n) (sym at) ∙ get_last roots root ∙ ap (λ r. Some r) (is_own other e)
  is_named other t false e has =
      get_kept roots (root ∷ []) t ((are t other).0 (sym (update.0 other ∙ ap (λ b. cond b (Some (length roots)) (number_of old other)) e) ∙ has))

  pub number_added : AreNumbered (roots ++ root ∷ []) new
  number_added t other = (
    λ has. is_named other t (is_eq (slice_cmp nat_cmp root other)) refl has,
    λ at. elim (get_cases roots t at) [
      | inl before ↦ number_kept other ((are t other).1 before)
      | inr last ↦ ap (λ r. number_of new r) last.1 ∙ update.1 ∙ ap (λ n. Some n) (sym last.0)
    ],
  )
