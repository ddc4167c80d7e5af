use Rattle.std.proofs.Common.{◌≡◌, string_bytes, flat_map}
use Rattle.bt_progress.specs.Escape.{char_of_lines}
use Rattle.bt_progress.proofs.escape.escaped_lines.Given as goal

-- what was read so far is told
abbrev pub invariant-loop-letter : goal.invariant-loop-letter
invariant-loop-letter l = string_bytes l.told ≡ flat_map char_of_lines l.yielded
