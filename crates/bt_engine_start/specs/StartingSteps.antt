-- The log of an engine that begins. No public contract cites it.
use Rattle.std.specs.Prelude.{◌≡◌, List, ℕ, Option, Some, option_map}
use Rattle.bt_resume.specs.ResumeLog.{LogView}
use Rattle.bt_engine_state.specs.declared.open_log.OpenLog.{OpenLog}

-- the log, without what waits to be written to it
abbrev pub log_in : {D : Type 0} → Option (OpenLog D) → Option (LogView D)
log_in log = option_map (λ opened. opened.log) log

-- a log, where there is one, is of the torrent of this infohash
abbrev pub IsLogOf : {D : Type 0} → (infohash : List ℕ) → Option (LogView D) → Type 0
IsLogOf {D} infohash log = (l : LogView D) → log ≡ Some l → l.infohash ≡ infohash
