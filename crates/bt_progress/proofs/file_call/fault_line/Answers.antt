use Rattle.std.proofs.Common.{◌∙◌, codes}
use Rattle.std.proofs.lemmas.Result.{IfOk-weaker}
use Rattle.bt_progress.specs.Escape.{escaped_text}
use Rattle.bt_progress.specs.FileCall.{call_text}
use Rattle.bt_progress.proofs.LineText.{four_put, six_put}
use Rattle.bt_progress.proofs.file_call.fault_line.Goals as goal

pub returns-in-Some : goal.returns-in-Some
returns-in-Some c = IfOk-weaker c.format.result _ _
    (λ line h. h ∙ rw (c.in-Some.is, c.call_text-call.ensures, c.in_ok-name.ensures)
    (six_put (codes "btseed: cannot ") (call_text c.args.call) (codes " ") (escaped_text c.args.name.now) (codes ": ") c.in-Some.reason.now (codes "\n")))
    c.format.ensures.ok

pub returns : goal.returns
returns c = IfOk-weaker c.format-in-None.result _ _
    (λ line h. h ∙ rw (c.in-None.is, c.call_text-call.ensures, c.in_ok-name.ensures)
    (four_put (codes "btseed: cannot ") (call_text c.args.call) (codes " ") (escaped_text c.args.name.now) (codes "\n")))
    c.format-in-None.ensures.ok
