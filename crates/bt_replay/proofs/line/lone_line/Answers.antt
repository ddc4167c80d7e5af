use Rattle.std.proofs.Common.{ap, sym, ◌∙◌}
use Rattle.bt_replay.specs.Field.{fields_in}
use Rattle.bt_replay.proofs.Fields.{some_parts}
use Rattle.bt_replay.proofs.line.lone_line.Goals as goal

pub returns-in-Some-clause-none : goal.returns-in-Some-clause-none
returns-in-Some-clause-none c e = some_parts c.in-Some.field-0.now (sym (ap fields_in c.in-Some.is) ∙ e)
