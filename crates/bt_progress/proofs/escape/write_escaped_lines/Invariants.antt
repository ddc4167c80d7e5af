-- what was read so far is written
use Rattle.std.proofs.Common.{flat_map}
use Rattle.std.specs.Io.KnownBytes.{Appends}
use Rattle.bt_progress.specs.Escape.{char_of_lines}
use Rattle.bt_progress.proofs.escape.write_escaped_lines.Given as goal

abbrev pub invariant-loop-letter : goal.invariant-loop-letter
invariant-loop-letter g l = Appends (g.W.Write.contents l.fn.writer) (g.W.Write.contents l.writer) (flat_map char_of_lines l.yielded)
