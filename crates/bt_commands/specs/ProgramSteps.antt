-- The status of what a run comes to: for its private steps.
use Rattle.std.specs.Prelude.{ℕ, Result, Ok, Err}
use Rattle.bt_check.specs.Fault.{status_of}
use Rattle.bt_check.specs.declared.fault.Fault.{Fault}

-- the status of a result, or of a fault
abbrev pub status_after : Result ℕ Fault → ℕ
status_after (Ok status) = status
status_after (Err fault) = status_of fault
