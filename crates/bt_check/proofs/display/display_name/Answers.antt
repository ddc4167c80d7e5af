use Rattle.std.proofs.Common.{sym, ◌∙◌}
use Rattle.std.proofs.lemmas.Result.{IfOk-weaker}
use Rattle.bt_check.proofs.ShowText.{shown_plain, shown_marked, shown_bytes}
use Rattle.bt_check.proofs.display.display_name.Goals as goal
use Rattle.bt_check.proofs.display.display_name.Goals.{in_default-via-in-Ok+else-is_readable_text, in_default-via-in_default}

pub returns-in-Ok : goal.returns-in-Ok
returns-in-Ok c =
    let name = shown_plain c.args.name.now c.in-Ok.ensures.cases.1 (sym c.is_readable_text.ensures ∙ c.if-is_readable_text.true) in
    IfOk-weaker c.from_str.result _ _ (λ t h. h ∙ c.in-Ok.ensures.cases.0 ∙ sym name) c.from_str.ensures.ok

pub returns-in_default : goal.returns-in_default
returns-in_default c = elim c.in_default.branch [
  | in_default-via-in-Ok+else-is_readable_text w ↦ rw (shown_marked c.args.name.now (sym w.is_readable_text.ensures ∙ w.if-is_readable_text.false)) c.hexadecimal.ensures
  | in_default-via-in_default w ↦ rw (shown_bytes c.args.name.now w.in_default.ensures.cases.0) c.hexadecimal.ensures
]
