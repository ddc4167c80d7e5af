use Rattle.std.proofs.Common.{◌==◌, sym}
use Rattle.bt_parts.proofs.Parts.{cut_at, not_cut}
use Rattle.bt_parts.proofs.field.first_field.Goals as goal

pub returns-in-Some : goal.returns-in-Some
returns-in-Some c = cut_at (λ byte. byte == 32) c.args.text.now c.in-Some.end (sym c.in-Some.ensures)

pub returns-in-None : goal.returns-in-None
returns-in-None c = not_cut (λ byte. byte == 32) c.args.text.now (sym c.in-None.ensures)
