use Rattle.std.proofs.Common.{rules, ◌≡◌, ℕ, ◌*◌, ◌%◌, ◌^◌, ◌≤◌, inl, inr, ap, sym, refl, ◌∙◌, arith}
use Rattle.std.proofs.lemmas.Nat.{one_shl}
use Rattle.std.proofs.lemmas.Bool.{cases_lt}
use Rattle.bt_hashreq.proofs.claim.run_height.Goals as goal

shifted : (height : ℕ) → height ≤ 32 → 1 * 2 ^ height % 2 ^ 64 ≡ 2 ^ height
shifted height limit = one_shl height 64 (omega (arith, limit))

pub returns-then-length-height-clause-some : goal.returns-then-length-height-clause-some
returns-then-length-height-clause-some c = (
  λ _. record {
    some = c.if-length-lt2.false;
    limit = c.if-length-gt-MAX_RUN_LENGTH.false;
    power = c.if-length-height.true ∙ shifted c.tree_height-height.result c.tree_height-height.ensures.limit
        ∙ ap (λ k. 2 ^ k) c.tree_height-height.ensures.value;
  },
  λ _. refl,
)

pub returns-then-length-height-clause-height : goal.returns-then-length-height-clause-height
returns-then-length-height-clause-height c = c.tree_height-height.ensures.value

pub returns-then-length-height-clause-above : goal.returns-then-length-height-clause-above
returns-then-length-height-clause-above c = elim (cases_lt 0 c.tree_height-height.result) [
  | inl lt ↦ lt
  | inr none ↦
      let flat : c.tree_height-height.result ≡ 0 = omega (arith, none) in
      let one : c.args.length ≡ 1 = c.if-length-height.true ∙ ap (λ k. 1 * 2 ^ k % 2 ^ 64) flat in
      absurd (omega (arith, one, c.if-length-lt2.false))
]

pub returns-else-length-height-clause-some : goal.returns-else-length-height-clause-some
returns-else-length-height-clause-some c = (
  λ h. search rules,
  λ run. absurd (c.if-length-height.false (run.power ∙ ap (λ k. 2 ^ k) (sym c.tree_height-height.ensures.value)
      ∙ sym (shifted c.tree_height-height.result c.tree_height-height.ensures.limit))),
)
