use Rattle.std.proofs.Common.{◌&&◌, not, ap, sym, ◌∙◌}
use Rattle.std.specs.Prelude.{codes, nat_eq}
use Rattle.std.specs.List.{starts_with}
use Rattle.bt_check.proofs.display.is_readable_text.Goals as goal

pub returns-then-has_no_control : goal.returns-then-has_no_control
returns-then-has_no_control c =
    ap not c.starts_with.ensures.value
    ∙ ap (λ b. b && not (starts_with nat_eq c.args.text.now (codes "0x"))) (sym c.if-has_no_control.true ∙ c.has_no_control.ensures)
