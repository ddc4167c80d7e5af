-- How a log is read again. No public contract cites it.
use Rattle.std.specs.Prelude.{◌≡◌, Option, Some, None, Result, Ok}
use Rattle.bt_disk.specs.Conduct.{Conduct}
use Rattle.bt_resume.specs.ResumeLog.{LogView, IsReloaded}
use Rattle.bt_resume.specs.declared.error.LogError.{LogError}
use Rattle.bt_engine_state.specs.declared.open_log.OpenLog.{OpenLog}

-- The log, where there is one, was read again. What waits to be written to it stays.
pub data IsReadAgain {D : Type 0} (conduct : Conduct D)
    (old : Option (OpenLog D)) (result : Result (Unit {0}) LogError) (new : Option (OpenLog D)) : Type 0 where
  reloads : (before : OpenLog D) (after : LogView D) → old ≡ Some before
      → IsReloaded conduct before.log result after → new ≡ Some (record before { log = after })
      → IsReadAgain conduct old result new
  no_log : old ≡ None → result ≡ Ok tt → new ≡ old → IsReadAgain conduct old result new
