use Rattle.std.proofs.Common.{◌≡◌, ◌∷◌, ℕ, List, [], length, refl, sym, ◌∙◌, subst, arith, eqb-true}
use Rattle.std.proofs.lemmas.List.{take_rest}
use Rattle.bt_sockets.specs.TimingSteps.{HavePassedOut, nothing, further}
use Rattle.bt_sockets.proofs.timing.Times.pass_out.Goals as goal

none_left : (xs : List ℕ) → length xs ≡ 0 → xs ≡ []
none_left [] none = refl
none_left (x ∷ xs) none = absurd (omega (arith, none))

pub passing-init : goal.passing-init
passing-init c = nothing

pub passing-preserved : goal.passing-preserved
passing-preserved c =
    let rest = c.passing.rest.now in
    let passed = c.pass-passed.result in
    let new = c.note_whole.new.self in
    subst (λ (left : List ℕ). HavePassedOut c.args.now c.args.self.now c.args.bytes.now left new) (sym (take_rest rest passed.0))
    (
    further rest c.passing.self new passed.0 passed.1 c.pass-passed.new.self c.passing.invariant c.pass-passed.ensures.passed
    c.note_whole.ensures
    )

pub returns : goal.returns
returns c =
    let rest = c.passing.rest.now in
    let none : rest ≡ [] = none_left rest (eqb-true (length rest) 0 (sym c.is_empty.ensures ∙ c.passing-test.false)) in
    subst (λ (left : List ℕ). HavePassedOut c.args.now c.args.self.now c.args.bytes.now left c.passing.self) none c.passing.invariant
