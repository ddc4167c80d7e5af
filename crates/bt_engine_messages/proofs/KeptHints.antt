-- The hint of hashes that a log keeps is the machine's proof of them, and can be read back.
use Rattle.std.specs.FinMap as finite
use Rattle.std.specs.Prelude.{IfSome, nat_lt}
use Rattle.std.specs.Option.{option_to_list}
use Rattle.bt_machine.proofs.Base.{[], ◌≡◌, ℕ, ◌+◌, ◌*◌, ◌/◌, inl, inr, Bool, true, false, List, ◌∷◌, length, Option, None, refl, sym, ap, ◌∙◌, subst, arith, if◌then◌else◌, is_some, cases_lt, lt-ltb, le-ltb, Facts, HashKey, Claim, IsClaimBy, answer_size}
use Rattle.bt_hashreq.specs.Claim.{digests_in}
use Rattle.bt_resume.specs.Hint.{CanBeRead}
use Rattle.bt_machine.proofs.Digests.{chunk_count}
use Rattle.bt_machine.specs.State.{Hint, proof_of}
use Rattle.bt_machine.specs.HashMessages.{new_proofs}
use Rattle.bt_engine_state.specs.declared.open_log.OpenLog.{OpenLog}
use Rattle.bt_engine_state.specs.declared.parts.Parts.{Parts}
use Rattle.bt_engine_messages.specs.Outcome.{KeepsProofs}
use Rattle.bt_engine_messages.specs.HintSteps.{hint_of, kept_hint}

-- ---- the nodes that were added

more_by : (a b n : ℕ) → b ≡ a + n → nat_lt 0 n ≡ nat_lt a b
more_by a b n same = elim (cases_lt 0 n) [
  | inl lt ↦ lt-ltb 0 n lt ∙ sym (lt-ltb a b (omega (arith, same)))
  | inr le ↦ le-ltb 0 n le ∙ sym (le-ltb a b (omega (arith, same)))
]

pub kept_if_added : (old new : Facts) (hint : Option Hint) (added : ℕ) → finite.len new.nodes ≡ finite.len old.nodes + added
    → (if nat_lt 0 added then hint else None) ≡ kept_hint old new hint
kept_if_added old new hint added same = ap (λ b. if b then hint else None) (more_by (finite.len old.nodes) (finite.len new.nodes) added same)

-- ---- the hint

either_way : {X : Type 0} (b : Bool) (x : X) → (if b then x else x) ≡ x
either_way true x = refl
either_way false x = refl

kept_none : (old new : Facts) → kept_hint old new None ≡ None
kept_none old new = either_way (nat_lt (finite.len old.nodes) (finite.len new.nodes)) None

times_over : (n m : ℕ) → n ≡ 32 * m → n / 32 ≡ m
times_over n m e = omega (arith, e)

module _ (key : HashKey) (digests : List ℕ) where
  kept_alike : (old new : Facts) → new_proofs key digests old new ≡ option_to_list (kept_hint old new (hint_of true key digests))
  kept_alike old new = by (nat_lt (finite.len old.nodes) (finite.len new.nodes))
    where
      by : (b : Bool) → (if b then proof_of key (digests_in digests) ∷ [] else [])
          ≡ option_to_list (if b then hint_of true key digests else None)
      by true = refl
      by false = refl

  readable : {claim : Claim} → IsClaimBy key digests claim → CanBeRead (proof_of key (digests_in digests))
  readable by =
      (by.shape, chunk_count (length digests / 32) digests ∙ times_over (length digests) (answer_size key.length key.layers) by.size)

  can_be_read : {claim : Claim} → IsClaimBy key digests claim → (logged : Bool) (old new : Facts) {hint kept : Option Hint}
      → hint ≡ hint_of logged key digests → kept ≡ kept_hint old new hint → IfSome kept CanBeRead
  can_be_read claims logged old new made is =
      subst (λ (o : Option Hint). IfSome o CanBeRead) (sym (is ∙ ap (kept_hint old new) made))
      (each (nat_lt (finite.len old.nodes) (finite.len new.nodes)) logged)
    where
      each : (added logged : Bool) → IfSome (if added then hint_of logged key digests else None) CanBeRead
      each true true = readable claims
      each true false = tt
      each false logged = tt

  -- with a log the hint is the machine's proof, and without one there is none
  pub keeps_proofs : {D H : Type 0} (parts : Parts D H) {claim : Claim} → IsClaimBy key digests claim → (old new : Facts) (hint kept : Option Hint)
      → hint ≡ hint_of (is_some parts.log) key digests → kept ≡ kept_hint old new hint → KeepsProofs parts kept (new_proofs key digests old new)
  keeps_proofs {D} parts claims old new hint kept made is = record {
    logged = λ on. kept_alike old new
        ∙ sym (ap option_to_list (is ∙ ap (kept_hint old new) (made ∙ ap (λ b. hint_of b key digests) on)));
    unlogged = λ off. is
        ∙ ap (kept_hint old new) (made ∙ ap (λ (o : Option (OpenLog D)). hint_of (is_some o) key digests) off) ∙ kept_none old new;
    readable = can_be_read claims (is_some parts.log) old new made is;
  }

-- where there is no hint, the machine keeps no proof
pub keeps_none : {D H : Type 0} (parts : Parts D H) {hint : Option Hint} → hint ≡ None → KeepsProofs parts hint []
keeps_none parts none = record {
  logged = λ on. sym (ap option_to_list none);
  unlogged = λ off. none;
  readable = subst (λ (o : Option Hint). IfSome o CanBeRead) (sym none) tt;
}
