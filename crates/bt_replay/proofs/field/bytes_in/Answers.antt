use Rattle.std.proofs.Common.{Err, rules, sym, ap, ◌∙◌}
use Rattle.bt_replay.proofs.Hex.{even_length, no_hex, some_hex}
use Rattle.bt_replay.proofs.field.bytes_in.Goals as goal
use Rattle.bt_replay.proofs.field.bytes_in.Goals.{then-is_empty-via-then-is_empty, then-is_empty-via-else-is_empty+then-not-are_digits}

pub returns-then-is_empty-clause-none : goal.returns-then-is_empty-clause-none
returns-then-is_empty-clause-none c bytes h = elim c.then-is_empty.branch [
  | then-is_empty-via-then-is_empty w ↦ search rules
  | then-is_empty-via-else-is_empty+then-not-are_digits w ↦ no_hex c.args.field.now bytes (sym w.are_digits.ensures ∙ w.if-not-are_digits.true) h
]

pub returns-in-Err-OutOfMemory-clause-memory : goal.returns-in-Err-OutOfMemory-clause-memory
returns-in-Err-OutOfMemory-clause-memory c =
    some_hex c.args.field.now (search rules)
    (even_length c.decode.result _ c.decode.ensures.odd (c.in-Err-OutOfMemory.is ∙ ap Err c.in-Err-OutOfMemory.field-0-is))
    (sym c.are_digits.ensures ∙ c.if-not-are_digits.false)
