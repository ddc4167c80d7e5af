use Rattle.bt_check.proofs.ReaderFill.{filled_more, filled_kept}
use Rattle.bt_check.proofs.reader.fill.Goals as goal
use Rattle.bt_check.proofs.reader.fill.Goals.{in-Ok, in-Err}

pub loop-preserved : goal.loop-preserved
loop-preserved g c = elim c.match-read.branch [
  | in-Ok w ↦ rw w.filled-is (filled_more _ _ _ _ _ _ _ _ c.loop.invariant w.in-Ok.ensures.bound.0 w.in-Ok.ensures.bytes.0)
  | in-Err w ↦ rw w.filled-is (filled_kept _ _ _ _ _ _ _ c.loop.invariant w.in-Err.ensures.bytes)
]
