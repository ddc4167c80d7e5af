-- Lemmas on an engine that has no log, and on flushes. It gets none.
use Rattle.std.proofs.Common.{[], ◌≡◌, inl, inr, ℕ, List, ◌∷◌, ◌++◌, Option, Some, None, Result, Err, refl, ap, sym, ◌∙◌}
use Rattle.bt_disk.specs.Conduct.{Conduct}
use Rattle.bt_machine.specs.declared.error.FlushError.{FlushError}
use Rattle.bt_machine.specs.declared.error.FlushError.TheVariants.{Device, LogFull}
use Rattle.bt_machine.specs.declared.event.Event.TheVariants.{Flush}
use Rattle.bt_machine.specs.declared.event.Answer.TheVariants.{Flushed}
use Rattle.bt_machine.specs.Flush.{StepFlush, appended, syncs, writes, fails, unwritten, unflushed}
use Rattle.bt_machine.specs.LogCalls.{EventCalls, LogCall, HaveLogCalls}
use Rattle.bt_machine.specs.State.{EngineState, EngineView}
use Rattle.bt_machine.specs.View.{StepsTo}
use Rattle.bt_engine.specs.Leads.{LeadsTo, none as no_event, one as one_event, both as one_and_other}
use Rattle.bt_check.specs.declared.fault.Fault.{Fault}
use Rattle.bt_files.specs.Ending.{IsEndFault}
use Rattle.bt_files.specs.Store.{IsFlushFault, IsSameButPending, flush_fault}

some_last : {X : Type 0} (xs : List X) (x : X) → xs ++ x ∷ [] ≡ [] → ⊥
some_last [] x none = absurd cc
some_last (y ∷ xs) x none = absurd cc

unpended : {s new : EngineState} → new ≡ s → IsSameButPending s new
unpended same = ap (λ (z : EngineState). record z { pending = [] }) same

-- the log's calls of a flush
log_of : {calls made : EventCalls} → calls ≡ made → calls.log ≡ [] → made.log ≡ []
log_of is none = ap (λ (c : EventCalls). c.log) (sym is) ∙ none

-- a flush changes nothing of a state but what is pending
flush_same : {s new : EngineState} {calls : EventCalls} {answer : _} → StepFlush s calls answer new → IsSameButPending s new
flush_same (syncs off made answer same) = unpended same
flush_same (writes on made answer after) = unpended after
flush_same (fails before file after files made answer same) = unpended same
flush_same (unwritten before hint after cause on pending made answer same) = unpended same
flush_same (unflushed on made answer same) = unpended same

flush_not_full : {s new : EngineState} {calls : EventCalls} {answer : _} → StepFlush s calls answer new → answer ≡ Err LogFull → calls.log ≡ [] → ⊥
flush_not_full (syncs off made answer same) full none = absurd cc
flush_not_full (writes on made answer after) full none = absurd cc
flush_not_full (fails before file after files made answer same) full none = absurd cc
flush_not_full (unwritten before hint after cause on pending made answer same) full none = some_last (appended before) _ (log_of made none)
flush_not_full (unflushed on made answer same) full none = absurd cc

module _ {D : Type 0} (conduct : Conduct D) (dig : List ℕ → List ℕ) where
  none_called : (old new : Option _) (calls : List LogCall) → old ≡ None → HaveLogCalls conduct old calls new → calls ≡ []
  none_called None None calls none made = made
  none_called None (Some new) calls none made = absurd made
  none_called (Some old) new calls none made = absurd cc

  none_after : (old new : Option _) (calls : List LogCall) → old ≡ None → HaveLogCalls conduct old calls new → new ≡ None
  none_after None None calls none made = refl
  none_after None (Some new) calls none made = absurd made
  none_after (Some old) new calls none made = absurd cc

  -- no event gives it one
  pub stays_unlogged : {old new : EngineView D} → LeadsTo conduct dig old new → old.log ≡ None → new.log ≡ None
  stays_unlogged (no_event engine) unlogged = unlogged
  stays_unlogged (one_event old new event answer other step) unlogged = none_after old.log new.log step.calls.log unlogged step.logged
  stays_unlogged (one_and_other old mid new first then) unlogged = stays_unlogged then (stays_unlogged first unlogged)

  -- its flush changes nothing of its state but what is pending
  pub same_but_pending : (old new : EngineView D) (answer : _) → StepsTo conduct dig old Flush (Flushed answer) new
      → IsSameButPending old.state new.state
  same_but_pending old new answer step = flush_same step.step.2

  -- without a log none is full
  unlogged_not_full : (old new : EngineView D) → old.log ≡ None → StepsTo conduct dig old Flush (Flushed (Err LogFull)) new → ⊥
  unlogged_not_full old new none step =
      flush_not_full step.step.2 (own step.step.1) (none_called old.log new.log step.calls.log none step.logged)
    where
      own : {answer : Result (Unit {0}) _} → Flushed (Err LogFull) ≡ Flushed answer → answer ≡ Err LogFull
      own e = cc

  -- why a flush is refused
  pub flush_fails : (old new : EngineView D) (error : FlushError) → StepsTo conduct dig old Flush (Flushed (Err error)) new
      → IsFlushFault old.log (flush_fault error)
  flush_fails old new Device step = inl refl
  flush_fails old new LogFull step = inr (refl, λ none. unlogged_not_full old new none step)

  -- an engine that has a log had one before
  pub flush_fault_before : {old mid : EngineView D} → LeadsTo conduct dig old mid → (fault : Fault) → IsFlushFault mid.log fault
      → IsFlushFault old.log fault
  flush_fault_before leads fault (inl failed) = inl failed
  flush_fault_before leads fault (inr full) = inr (full.0, λ none. full.1 (stays_unlogged leads none))

  pub end_fault_before : {old mid : EngineView D} → LeadsTo conduct dig old mid → (fault : Fault) → IsEndFault mid.log fault
      → IsEndFault old.log fault
  end_fault_before leads fault (inl flush) = inl (flush_fault_before leads fault flush)
  end_fault_before leads fault (inr short) = inr short
