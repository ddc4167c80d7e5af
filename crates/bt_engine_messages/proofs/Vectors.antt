-- A `Vec` is told by what it holds, in the room that it has.
use Rattle.std.proofs.Common.{◌≡◌, ℕ, ◌≤◌, List, length, sym, ap, ◌∙◌, subst}
use Rattle.std.proofs.Math.Nat.{ℕ_set}
use Rattle.std.proofs.Math.Bridge.{le_prop}
use Rattle.std.specs.Vec.{with_items, vec_len}
use Rattle.std.specs.declared.vec.Vec.{Vec}
use Rattle.std.proofs.lemmas.List.{with_items_is}

one_ok : (len most n : ℕ) (a b : (len ≡ n) × (len ≤ most)) → a ≡ b
one_ok len most n = hlevel (ℕ_set, le_prop)

module _ {X Z : Type 0} (v : Vec X Z) where
  abbrev holding : (items : List X) → (v.len ≡ length items) × (v.len ≤ v.cap) → Vec X Z
  holding items ok = record { ptr = v.ptr; len = v.len; cap = v.cap; alloc = v.alloc; items = items; ok = ok; small = v.small }

  same_ok : (a b : (v.len ≡ length v.items) × (v.len ≤ v.cap)) → a ≡ b
  same_ok = one_ok v.len v.cap (length v.items)

  same_vec : (items : List X) → items ≡ v.items → (ok : (v.len ≡ length items) × (v.len ≤ v.cap)) → holding items ok ≡ v
  same_vec items same =
      subst (λ (xs : List X). (ok : (v.len ≡ length xs) × (v.len ≤ v.cap)) → holding xs ok ≡ v) (sym same)
      (λ ok. ap (holding v.items) (same_ok ok v.ok))

  -- the same elements, written over
  pub vec_kept : (items : List X) → length items ≡ vec_len v → items ≡ v.items → with_items v items ≡ v
  vec_kept items size same = same_vec _ (with_items_is v items size ∙ same) _
