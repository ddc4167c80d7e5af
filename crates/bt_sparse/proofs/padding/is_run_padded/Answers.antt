use Rattle.std.proofs.Common.{◌≡◌, ℕ, ◌+◌, ◌-◌, ◌<◌, ◌≤◌, [], get_or, length, sym, ap, ◌∙◌, refl, arith}
use Rattle.std.proofs.lemmas.Bool.{false≢true}
use Rattle.bt_sparse.proofs.Paddings.{tail_length, tail_at}
use Rattle.bt_sparse.proofs.Acceptances.{apart_bytes}
use Rattle.bt_sparse.proofs.padding.is_run_padded.Goals as goal

pub returns-then-ne : goal.returns-then-ne
returns-then-ne g c = (
  λ no. absurd (false≢true no),
  λ all.
      let i : ℕ = c.loop-digest.digest-index in
      let k : ℕ = c.saturating_sub-covered.result in
      let run = c.as_slice-run.result.now in
      let within : c.loop-digest.digest-index < length c.as_slice-run.result.now - c.saturating_sub-covered.result =
      omega (arith, c.loop-digest-test.true, tail_length c.as_slice-run.result.now c.saturating_sub-covered.result) in
      let size = ap length c.as_slice-run.ensures in
      let digest = all (c.saturating_sub-covered.result + c.loop-digest.digest-index) (omega (arith, within, size))
      (omega (arith, c.saturating_sub-covered.ensures, c.real.ensures.value)) in
      absurd (apart_bytes _ _ _ c.ne.ensures c.if-ne.true
      (tail_at c.as_slice-run.result.now c.saturating_sub-covered.result c.loop-digest.digest-index within
      ∙ ap (λ ds. get_or ds (c.saturating_sub-covered.result + c.loop-digest.digest-index) []) c.as_slice-run.ensures ∙ digest ∙ sym c.pad-padding.ensures)),
)

pub returns : goal.returns
returns g c = (
  λ _ j within past.
      let k : ℕ = c.saturating_sub-covered.result in
      let from : c.saturating_sub-covered.result ≤ j = omega (arith, past, c.saturating_sub-covered.ensures, c.real.ensures.value) in
      let size = ap length c.as_slice-run.ensures in
      let at : c.saturating_sub-covered.result + (j - c.saturating_sub-covered.result) ≡ j = omega arith in
      let inside : j - c.saturating_sub-covered.result < length c.as_slice-run.result.now - c.saturating_sub-covered.result = omega (arith, within, size) in
      let seen : j - c.saturating_sub-covered.result < c.loop-digest.digest-index =
      omega (arith, inside, c.loop-digest-test.false, tail_length c.as_slice-run.result.now c.saturating_sub-covered.result) in
      ap (λ ds. get_or ds j []) (sym c.as_slice-run.ensures) ∙ ap (λ i. get_or c.as_slice-run.result.now i []) (sym at)
      ∙ sym (tail_at c.as_slice-run.result.now c.saturating_sub-covered.result (j - c.saturating_sub-covered.result) inside)
      ∙ c.loop-digest.invariant (j - c.saturating_sub-covered.result) seen ∙ c.pad-padding.ensures,
  λ _. refl,
)
