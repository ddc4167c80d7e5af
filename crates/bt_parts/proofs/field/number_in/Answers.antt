use Rattle.std.proofs.lemmas.Fmt.{IsAscii-from_digits}
use Rattle.std.proofs.lemmas.Str.{IsUtf8-from_ascii}
use Rattle.bt_parts.proofs.field.number_in.Goals as goal

pub returns-in-Err-clause-none : goal.returns-in-Err-clause-none
returns-in-Err-clause-none c n h =
    c.in-Err.ensures.cases.0 (IsUtf8-from_ascii c.args.field.now (IsAscii-from_digits c.args.field.now h.digits.1))
