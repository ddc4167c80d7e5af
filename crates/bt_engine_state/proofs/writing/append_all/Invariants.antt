use Rattle.bt_engine_state.proofs.Calls.{AreAppended}
use Rattle.bt_engine_state.proofs.writing.append_all.Given as goal

abbrev pub invariant-loop-hint : goal.invariant-loop-hint
invariant-loop-hint g l = AreAppended g.D.Disk.conduct l.fn.log l.fn.hints l.hint-index l.log
