use Rattle.std.proofs.Common.{List, ap}
use Rattle.bt_resume.specs.declared.hint.Hint.{Hint}
use Rattle.bt_machine.specs.State.{EngineState}
use Rattle.bt_machine.specs.Flush.{synced_then, writes, unwritten as stops_at, unflushed as unsynced}
use Rattle.bt_engine_state.specs.Writing.{WritingFlushes, written, unwritten, unflushed}
use Rattle.bt_engine_state.proofs.law.writing_flushes.Goals as goal

leaving : EngineState → List Hint → EngineState
leaving s left = record s { pending = left }

flushes : WritingFlushes
unfolding leaving
flushes s calls answer left logged (written made ok none) = writes logged (ap (synced_then s) made) ok (ap (leaving s) none)
flushes s calls answer left logged (unwritten before hint after cause split made err same) =
    stops_at before hint after cause logged split (ap (synced_then s) made) err (ap (leaving s) same)
flushes s calls answer left logged (unflushed made err same) = unsynced logged (ap (synced_then s) made) err (ap (leaving s) same)

pub returns : goal.returns
returns c = flushes
