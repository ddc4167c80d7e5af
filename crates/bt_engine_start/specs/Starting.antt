-- The machine's answer to a start.
use Rattle.std.specs.Prelude.{Result, Ok, Err}
use Rattle.bt_resume.specs.ResumeLog.{LogView}
use Rattle.bt_machine.specs.State.{EngineView}
use Rattle.bt_machine.specs.declared.error.StartRefused.{StartRefused}
use Rattle.bt_engine_state.specs.Parts.{state_of, disks_of, log_of}
use Rattle.bt_engine_state.specs.declared.parts.Parts.{Parts}

-- the engine that the parts tell
abbrev pub engine_of : {D H : Type 0} → Parts D H → EngineView D
engine_of parts = record { state = state_of parts; disks = disks_of parts; log = log_of parts }

-- what the parts tell, or the refusal
abbrev pub answer_of : {D H : Type 0} → Result (Parts D H) (StartRefused D (LogView D))
    → Result (EngineView D) (StartRefused D (LogView D))
answer_of (Ok parts) = Ok (engine_of parts)
answer_of (Err refused) = Err refused
