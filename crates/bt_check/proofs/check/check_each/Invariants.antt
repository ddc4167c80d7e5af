-- The files so far are reported.
use Rattle.std.specs.Vec.Iter.{into_iter_items}
use Rattle.bt_check.proofs.ReportLines.{IsReporting}
use Rattle.bt_check.proofs.check.check_each.Given as goal

abbrev pub invariant-loop-file : goal.invariant-loop-file
invariant-loop-file g l =
    IsReporting g.D.Disk.conduct l.size.layer l.fn.files.items (into_iter_items l.file-iterator) l.trees l.summary
    (g.W.Write.contents l.fn.writer) (g.W.Write.contents l.writer)
