-- Where a full log is told, a flush found it full.
use Rattle.std.proofs.Common.{◌≡◌, inl, inr, ℕ, Bool, List, Option, Result, Ok, Err}
use Rattle.std.specs.Borrow.{Bor}
use Rattle.sha2.specs.Sha256.{sha256}
use Rattle.bt_disk.specs.Conduct.{Conduct}
use Rattle.bt_check.specs.Fault.{log_full}
use Rattle.bt_check.specs.declared.fault.Fault.{Fault}
use Rattle.bt_files.specs.DataFiles.{DeviceView}
use Rattle.bt_files.specs.Loading.{IsLoaded}
use Rattle.bt_files.specs.Store.{FailsWithFlush, IsToldWith, device_conduct, flush_fault}
use Rattle.bt_files.specs.declared.file_use.FileUse.{FileUse}
use Rattle.bt_machine.specs.State.{EngineView}
use Rattle.bt_machine.specs.View.{StepsTo}
use Rattle.bt_machine.specs.declared.error.FlushError.{FlushError}
use Rattle.bt_machine.specs.declared.error.FlushError.TheVariants.{Device, LogFull}
use Rattle.bt_machine.specs.declared.event.Event.TheVariants.{Flush}
use Rattle.bt_machine.specs.declared.event.Answer.TheVariants.{Flushed}
use Rattle.bt_engine.specs.Leads.{LeadsTo, both}
use Rattle.bt_together.specs.Together.{FailsAtOnce}
use Rattle.bt_transfer.specs.FullLog.{FindsLogFull, HasFilledLog}
use Rattle.bt_transfer.proofs.EndFaults.{call_not_full}

module _ {D : Type 0} {conduct : Conduct D} {dig : List ℕ → List ℕ} where
  answered_full : {mid new : EngineView D} (answer : Result (Unit {0}) FlushError) (fault : Fault) → StepsTo conduct dig mid Flush (Flushed answer) new
      → IsToldWith answer fault → fault ≡ log_full → StepsTo conduct dig mid Flush (Flushed (Err LogFull)) new
  answered_full (Ok done) fault step told full = absurd (call_not_full fault told full)
  answered_full (Err LogFull) fault step told full = step
  answered_full (Err Device) fault step told full = absurd (call_not_full fault (inl told) full)

  -- by the last flush, behind events that led on
  pub flush_full : {old mid new : EngineView D} {fault : Fault} → LeadsTo conduct dig old mid → FailsWithFlush conduct dig mid fault new
      → fault ≡ log_full → FindsLogFull conduct dig old
  flush_full {mid = mid} {new = new} {fault = fault} led fails full =
      record { mid = mid; led = led; last = new; full = answered_full fails.answer fault fails.flushed fails.told full }

  -- by one that was refused so
  pub refused_full : {old mid new : EngineView D} {error : FlushError} {fault : Fault} → LeadsTo conduct dig old mid
      → StepsTo conduct dig mid Flush (Flushed (Err error)) new → fault ≡ flush_fault error → fault ≡ log_full → FindsLogFull conduct dig old
  refused_full {mid = mid} {new = new} {error = error} {fault = fault} led step told full =
      record { mid = mid; led = led; last = new; full = answered_full (Err error) fault step told full }

  -- by one of many connections at once
  pub full_at_once : {old : EngineView D} (fault : Fault) → FailsAtOnce conduct dig old fault → fault ≡ log_full → FindsLogFull conduct dig old
  full_at_once fault (inl call) full = absurd (call_not_full fault call full)
  full_at_once fault (inr refused) full = refused_full refused.led refused.refused refused.told full

  -- behind events that came before
  pub found_later : {old mid : EngineView D} → LeadsTo conduct dig old mid → FindsLogFull conduct dig mid → FindsLogFull conduct dig old
  found_later {old} {mid} led found = record { mid = found.mid; led = both old mid found.mid led found.led; last = found.last; full = found.full }

-- of the store that was opened
pub filled_log : (is_info : Bool) (usage : FileUse) (dir : List ℕ) (log : Option (Bor (List ℕ))) (store : EngineView DeviceView)
    → IsLoaded is_info usage dir log store → FindsLogFull device_conduct sha256 store → HasFilledLog is_info usage dir log
filled_log is_info usage dir log store loaded found = record { store = store; loaded = loaded; found = found }
