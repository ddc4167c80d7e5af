-- What is known of the reader and the writer of a session where it ends. `has_failed` and `is_flushed` of a concrete
-- type are true (`WatchedReader`, `WatchedWriter`): all this is said of code over any reader and writer.
use Rattle.std.specs.Prelude.{◌≡◌, ◌≢◌, Result, Ok}
use Rattle.bt_machine.specs.declared.error.FlushError.{FlushError}
use Rattle.bt_session.specs.declared.end.SessionEnd.{SessionEnd}
use Rattle.bt_session.specs.declared.end.SessionEnd.TheVariants.{WriteFault, Memory}

-- an end that tells of a failure comes only where that came
abbrev pub OnlyAfterFailure : {E : Type 0} → (tells : E) → (failed : Type 0) → (end : E) → Type 0
OnlyAfterFailure tells failed end = end ≡ tells → failed

-- one of these failed
abbrev pub OneFailed : {A : Type 0} → (has_failed : A → Type 0) → Type 0
OneFailed {A} has_failed = (one : A) × has_failed one

-- a writer that was flushed is so again, unless it comes to this
abbrev pub StaysFlushed : {W A : Type 0} → (is_flushed : W → Type 0) → (unless : A) → W → (outcome : A) → W
    → Type 0
StaysFlushed is_flushed unless old outcome new = is_flushed old → outcome ≢ unless → is_flushed new

-- the writer is flushed, unless it failed or memory was refused
abbrev pub EndsFlushed : (is_flushed : Type 0) → Result SessionEnd FlushError → Type 0
EndsFlushed is_flushed end = end ≢ Ok WriteFault → end ≢ Ok Memory → is_flushed
