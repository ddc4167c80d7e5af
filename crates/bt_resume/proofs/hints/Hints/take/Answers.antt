use Rattle.std.proofs.Common.{◌∙◌, ap, subst}
use Rattle.bt_resume.specs.LogText.{format_of, joined_text}
use Rattle.bt_resume.specs.Reader.{IsTaken}
use Rattle.bt_resume.proofs.Keepings.{taken_is_spelled, same_spelled}
use Rattle.bt_resume.proofs.hints.Hints.take.Goals as goal

pub put-requires : goal.put-requires
put-requires c =
    let found = c.measure_text-found.ensures.text in
    let format = c.self.invariant.1 ∙ ap format_of c.self.view_is in
    let taken = subst (λ f. IsTaken f c.args.bytes.now found.0 c.measure_text-found.result.len) format found.1 in
    (found.0, record { spelled = taken_is_spelled _ c.args.bytes.now found.0 c.measure_text-found.result.len taken; end_is = found.3; count_is = found.2 })

pub returns : goal.returns
returns c =
    let found = c.measure_text-found.ensures.text in
    let format = c.self.invariant.1 ∙ ap format_of c.self.view_is in
    let taken = subst (λ f. IsTaken f c.args.bytes.now found.0 c.measure_text-found.result.len) format found.1 in
    let put = c.in_ok-put.ensures in
    let same = same_spelled _ _ put.0 found.0 put.1 (taken_is_spelled _ c.args.bytes.now found.0 c.measure_text-found.result.len taken) in
    (found.0, taken, put.2 ∙ ap (λ t. joined_text c.args.self.now t) same)
