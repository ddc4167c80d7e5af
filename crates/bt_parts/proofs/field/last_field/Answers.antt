use Rattle.std.proofs.Common.{[], sym}
use Rattle.bt_parts.specs.Field.{fields_in}
use Rattle.bt_parts.proofs.Fields.{more_follow, same_rest}
use Rattle.bt_parts.proofs.field.last_field.Goals as goal

pub returns-then-is_some-clause-none : goal.returns-then-is_some-clause-none
returns-then-is_some-clause-none c field e =
    more_follow c.in_ok-field.more (sym c.if-is_some.ensures)
    (same_rest c.in_ok-field.field.now field (fields_in c.in_ok-field.more) [] (fields_in c.args.rest) c.in_ok-field.ensures.some e)
