-- The end of a fetch: all is put on the devices, and the report is written.
use Rattle.std.specs.Prelude.{◌≡◌, ◌⊎◌, ℕ, if◌then◌else◌, List, Option, Ok}
use Rattle.std.specs.Io.KnownBytes.{Appends}
use Rattle.bt_disk.specs.Conduct.{Conduct}
use Rattle.bt_resume.specs.ResumeLog.{LogView}
use Rattle.bt_machine.specs.declared.event.Event.TheVariants.{Flush}
use Rattle.bt_machine.specs.declared.event.Answer.TheVariants.{Flushed}
use Rattle.bt_machine.specs.Report.{all_complete}
use Rattle.bt_machine.specs.State.{EngineView}
use Rattle.bt_machine.specs.View.{StepsTo}
use Rattle.bt_check.specs.Fault.{out_of_memory}
use Rattle.bt_check.specs.declared.fault.Fault.{Fault}
use Rattle.bt_files.specs.Report.{engine_report}
use Rattle.bt_files.specs.Store.{IsFlushFault}

-- all devices were synced, then the report was written; status 0 where all files are complete, else 1
pub record IsConcluded {D : Type 0} (conduct : Conduct D)
    (dig : List ℕ → List ℕ) (old : EngineView D) (before after : Option (List ℕ)) (status : ℕ)
    (new : EngineView D) : Type 0 where
  pub flushed : StepsTo conduct dig old Flush (Flushed (Ok tt)) new
  pub written : Appends before after (engine_report new.state)
  pub told : status ≡ (if all_complete new.state then 0 else 1)

-- why an end is not reached with this log, or without one
abbrev pub IsEndFault : {D : Type 0} → Option (LogView D) → Fault → Type 0
IsEndFault log fault = IsFlushFault log fault ⊎ (fault ≡ out_of_memory)
