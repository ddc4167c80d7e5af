-- The lines so far ran, and what tells of them was written.
use Rattle.std.proofs.Common.{length}
use Rattle.bt_replay.specs.Run.{lines_in}
use Rattle.bt_replay.proofs.LinesRun.{IsAt}
use Rattle.bt_replay.proofs.run.run_lines.Given as goal

abbrev pub invariant-lines : goal.invariant-lines
invariant-lines g l =
    IsAt g.D.Disk.conduct g.H.NodeHash.digest l.handshake l.initial.engine l.initial.number l.number
    (lines_in l.initial.rest) l.rest (g.W.Write.contents l.initial.writer) (g.W.Write.contents l.writer) l.engine

abbrev pub decreases-lines : goal.decreases-lines
decreases-lines g l = length (lines_in l.rest)
