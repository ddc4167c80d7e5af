-- A set of files, as the list of those that are in it.
use Rattle.std.proofs.Common.{◌≡◌, ◌↔◌, ◌⊎◌, ◌∙◌, ℕ, Bool, true, false, not, cond, inl, inr, refl, sym, ap}
use Rattle.std.specs.Bool.{OnFalse}
use Rattle.std.proofs.lemmas.Bool.{false≢true}
use Rattle.std.proofs.lemmas.Cmp.{eq_by_cmp_equiv, nat_cmp_total, on_total, then_total}
use Rattle.std.proofs.lemmas.Map.Lookups.{CmpEqualImpliesEq, exact_pairs, exact_unsigned}
use Rattle.std.specs.Cmp.{IsTotalOrder}
use Rattle.std.specs.Ordering.{nat_cmp, on, then_cmp, is_eq}
use Rattle.std.specs.declared.cmp.Ordering.{Ordering}
use Rattle.std.specs.declared.cmp.Ordering.TheVariants.{Less, Equal, Greater}
use Rattle.bt_disk.specs.declared.opening.FileIdentity.{FileIdentity}

-- the order of pairs
abbrev pub pair_cmp : ℕ × ℕ → ℕ × ℕ → Ordering
pair_cmp = then_cmp (on (λ p. p.0) nat_cmp) (on (λ p. p.1) nat_cmp)

pub pair_total : IsTotalOrder pair_cmp
pair_total = then_total (on_total (λ p. p.0) nat_cmp_total) (on_total (λ p. p.1) nat_cmp_total)

pub pair_exact : CmpEqualImpliesEq pair_cmp
pair_exact = exact_pairs nat_cmp nat_cmp exact_unsigned exact_unsigned

equal_from_is_eq : (o : Ordering) → is_eq o ≡ true → o ≡ Equal
equal_from_is_eq Less e = absurd (false≢true e)
equal_from_is_eq Equal e = refl
equal_from_is_eq Greater e = absurd (false≢true e)

-- the order tells two identities apart
pub is_same_file : (file other : FileIdentity)
    → (is_eq (pair_cmp (file.device, file.inode) (other.device, other.inode)) ≡ true) ↔ (other ≡ file)
is_same_file file other = (
  λ e. ap (λ p. record { device = p.0; inode = p.1 }) (sym (pair_exact _ _ (equal_from_is_eq _ e))),
  λ same. rw same ((eq_by_cmp_equiv pair_total).refl (file.device, file.inode)),
)

-- what was not there is a further one
pub further : (b r : Bool) (There : Type 0) → r ≡ not b → (b ≡ true) ↔ There → (r ≡ true) ↔ (There → ⊥)
further true r There e iff = (λ t. absurd (false≢true (sym e ∙ t)), λ n. absurd (n (iff.0 refl)))
further false r There e iff = (λ t there. absurd (false≢true (iff.1 there)), λ n. e)

-- what is there once one file more is
pub there_now : (b x y : Bool) (Before Now Same : Type 0) → y ≡ cond b true x → (y ≡ true) ↔ Now → (x ≡ true) ↔ Before → (b ≡ true) ↔ Same
    → Now ↔ (Before ⊎ Same)
there_now true x y Before Now Same e now before same = (λ n. inr (same.0 refl), λ either. now.0 e)
there_now false x y Before Now Same e now before same = (
  λ n. inl (before.0 (sym e ∙ now.1 n)),
  λ either. elim either [
    | inl p ↦ now.0 (e ∙ before.1 p)
    | inr s ↦ absurd (false≢true (same.1 s))
  ],
)

-- what is no further one was there
pub known_before : (b r : Bool) (There : Type 0) → r ≡ not b → (b ≡ true) ↔ There → OnFalse r There
known_before true true There e iff = absurd (false≢true (sym e))
known_before true false There e iff = iff.0 refl
known_before false true There e iff = tt
known_before false false There e iff = absurd (false≢true e)
