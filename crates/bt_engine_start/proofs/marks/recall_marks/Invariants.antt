use Rattle.std.proofs.Common.{drop}
use Rattle.bt_engine_start.specs.Runs.{marks_of}
use Rattle.bt_engine_start.proofs.FileRecallings.{RecallsTo}
use Rattle.bt_engine_start.proofs.marks.recall_marks.Given as goal

abbrev pub invariant-loop-run : goal.invariant-loop-run
invariant-loop-run g l = RecallsTo g.H.NodeHash.digest l.trees (marks_of l.runs) (marks_of (drop l.run-index l.runs)) l.fn.slots l.slots
