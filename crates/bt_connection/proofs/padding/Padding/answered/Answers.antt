use Rattle.std.proofs.Common.{◌≡◌, Option, Some, None, refl, ap, ℕ}
use Rattle.std.specs.Prelude.{IfNone}
use Rattle.bt_wire.specs.declared.message.Ask.{Ask}
use Rattle.bt_connection.proofs.padding.Padding.answered.Goals as goal

if_none : {X : Type 0} {P : Type 0} → (o : Option X) → P → IfNone o P
if_none (Some x) p = tt
if_none None p = p

abbrev length_in : Option Ask → ℕ
length_in (Some ask) = ask.length
length_in None = 0

pub returns-in_err-short-clause-none : goal.returns-in_err-short-clause-none
returns-in_err-short-clause-none c =
    if_none c.from_residual.result (λ asked there. let no : None ≡ Some c.args.ask = c.in_err-short.ensures.only c.args.ask there refl refl in absurd cc)

pub returns-then-short-ask-clause-none : goal.returns-then-short-ask-clause-none
returns-then-short-ask-clause-none c asked there =
    c.if-short-ask.true (ap length_in (c.in_ok-short.ensures.only c.args.ask there refl refl))
