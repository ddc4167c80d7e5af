use Rattle.std.proofs.Common.{◌≡◌, ℕ, ◌+◌, ◌-◌, ◌<◌, ◌∙◌, ap, length, subst, arith}
use Rattle.std.specs.Int.{w32, to_be_bytes}
use Rattle.bt_wire.specs.FrontSteps.{BeginsLawfulFrame}
use Rattle.bt_wire.proofs.Fronts.{shows_bad_length, begins_body}
use Rattle.bt_wire.proofs.front.frame_len.Goals as goal

pub returns-then-not-fits_kind-clause-fault : goal.returns-then-not-fits_kind-clause-fault
returns-then-not-fits_kind-clause-fault c =
    let size = c.number_at-field.result - 1 in
    let field : 1 + size ≡ c.number_at-field.result = omega arith in
    let more : 4 < length c.args.unread.now = omega arith in
    shows_bad_length c.args.unread.now size (ap (λ n. to_be_bytes w32 n) field ∙ c.number_at-field.ensures) more (omega arith)
    c.if-not-fits_kind.ensures.no

pub returns-clause-whole : goal.returns-clause-whole
returns-clause-whole c =
    let size = c.number_at-field.result - 1 in
    let field : 1 + size ≡ c.number_at-field.result = omega arith in
    let all : 5 + size ≡ 4 + c.number_at-field.result = omega arith in
    subst (λ (n : ℕ). BeginsLawfulFrame c.args.unread.now n) all
    (begins_body c.args.unread.now size (ap (λ n. to_be_bytes w32 n) field ∙ c.number_at-field.ensures) (omega arith) (omega arith)
    c.if-not-fits_kind.ensures.yes)
