-- The lines of the files so far are written.
use Rattle.std.specs.Io.KnownBytes.{Appends}
use Rattle.bt_files.proofs.ReportLines.{lines_to}
use Rattle.bt_files.proofs.report.write_lines.Given as goal

abbrev pub invariant-loop-number : goal.invariant-loop-number
invariant-loop-number g l =
    Appends (g.W.Write.contents l.initial.writer) (g.W.Write.contents l.writer) (lines_to l.engine.state l.number)
