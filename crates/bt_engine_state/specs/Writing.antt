-- How pending hints are written to a log: which calls are made of it, and what is answered. These are the
-- parts of the machine's flush after the syncs of the data devices.
use Rattle.std.specs.Prelude.{[], ◌≡◌, true, List, ◌∷◌, ◌++◌, Result, Ok, Err}
use Rattle.bt_resume.specs.declared.hint.Hint.{Hint}
use Rattle.bt_resume.specs.declared.error.AppendError.{AppendError}
use Rattle.bt_machine.specs.declared.error.FlushError.{FlushError}
use Rattle.bt_machine.specs.declared.error.FlushError.TheVariants.{Device}
use Rattle.bt_machine.specs.LogCalls.{LogCall, append_fault, log_flushed, flush_fault}
use Rattle.bt_machine.specs.State.{EngineState}
use Rattle.bt_machine.specs.Flush.{appended, flush_error, synced_then, StepFlush}

-- Hints were appended in their order, up to the first that was refused.
pub data AppendsHints (hints : List Hint) (calls : List LogCall) (answer : Result (Unit {0}) AppendError)
    : Type 0 where
  appends : calls ≡ appended hints → answer ≡ Ok tt → AppendsHints hints calls answer
  stops : (before : List Hint) (hint : Hint) (after : List Hint) (cause : AppendError)
      → hints ≡ before ++ hint ∷ after → calls ≡ appended before ++ append_fault hint cause ∷ []
      → answer ≡ Err cause → AppendsHints hints calls answer

-- All pending hints were appended in their order, and then the log was flushed: none is pending any more. It
-- ends at the first refusal, and then all stay pending.
pub data WritesHints (pending : List Hint) (calls : List LogCall) (answer : Result (Unit {0}) FlushError)
    (left : List Hint) : Type 0 where
  written : calls ≡ appended pending ++ log_flushed ∷ [] → answer ≡ Ok tt → left ≡ []
      → WritesHints pending calls answer left
  unwritten : (before : List Hint) (hint : Hint) (after : List Hint) (cause : AppendError)
      → pending ≡ before ++ hint ∷ after → calls ≡ appended before ++ append_fault hint cause ∷ []
      → answer ≡ Err (flush_error cause) → left ≡ pending → WritesHints pending calls answer left
  unflushed : calls ≡ appended pending ++ flush_fault ∷ [] → answer ≡ Err Device → left ≡ pending
      → WritesHints pending calls answer left

-- ---- law

-- After the syncs of all data devices this is the machine's flush of an engine with a log.
abbrev pub WritingFlushes : Type 0
WritingFlushes = (s : EngineState) (calls : List LogCall) (answer : Result (Unit {0}) FlushError)
    (left : List Hint) → s.logged ≡ true → WritesHints s.pending calls answer left
    → StepFlush s (synced_then s calls) answer (record s { pending = left })
