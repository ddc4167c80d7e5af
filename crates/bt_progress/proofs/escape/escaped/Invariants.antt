use Rattle.std.proofs.Common.{◌≡◌, string_bytes, flat_map}
use Rattle.bt_progress.specs.Escape.{escaped_char}
use Rattle.bt_progress.proofs.escape.escaped.Given as goal

-- what was read so far is told
abbrev pub invariant-loop-letter : goal.invariant-loop-letter
invariant-loop-letter l = string_bytes l.told ≡ flat_map escaped_char l.yielded
