-- All is begun anew from a log.
use Rattle.std.specs.Prelude.{ℕ, List, Result}
use Rattle.bt_disk.specs.Conduct.{Conduct}
use Rattle.bt_machine.specs.declared.error.RestartError.{RestartError}
use Rattle.bt_machine.specs.Devices.{HaveCalls}
use Rattle.bt_machine.specs.LogCalls.{EventCalls, HaveLogCalls}
use Rattle.bt_machine.specs.Restart.{StepRestart}
use Rattle.bt_engine_state.specs.Parts.{state_of, disks_of, log_of}
use Rattle.bt_engine_state.specs.declared.parts.Parts.{Parts}

-- It is the machine's step, by calls of the files' devices and of the log.
pub record RestartsWith {D H : Type 0} (conduct : Conduct D)
    (dig : List ℕ → List ℕ) (old : Parts D H) (answer : Result (Unit {0}) RestartError) (new : Parts D H)
    : Type 0 where
  pub calls : EventCalls
  pub devices : HaveCalls conduct (disks_of old) calls.devices (disks_of new)
  pub log : HaveLogCalls conduct (log_of old) calls.log (log_of new)
  pub step : StepRestart dig (state_of old) calls answer (state_of new)
