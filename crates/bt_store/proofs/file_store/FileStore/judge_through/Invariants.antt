use Rattle.std.proofs.Common.{◌-◌, ◌≤◌}
use Rattle.bt_store.proofs.Reviews.{IsReviewedTo}
use Rattle.bt_store.proofs.file_store.FileStore.judge_through.Given as goal

abbrev pub invariant-loop-at : goal.invariant-loop-at
invariant-loop-at g l = record {
  reviewed : IsReviewedTo g.D.Disk.conduct g.H.NodeHash.digest l.tree l.review l.from l.at l.fn.self l.self l.tally;
  high : l.at ≤ l.end;
}

abbrev pub decreases-loop-at : goal.decreases-loop-at
decreases-loop-at g l = l.end - l.at
