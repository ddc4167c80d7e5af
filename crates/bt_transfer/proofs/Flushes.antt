-- Lemmas on a flush, as its answer is told.
use Rattle.std.proofs.Common.{◌≡◌, ℕ, List, Result, Ok, Err, refl, ap}
use Rattle.std.specs.Prelude.{IfErr, OnOk}
use Rattle.bt_disk.specs.Conduct.{Conduct}
use Rattle.bt_check.specs.declared.fault.Fault.{Fault}
use Rattle.bt_files.specs.Store.{flush_fault}
use Rattle.bt_machine.specs.State.{EngineView}
use Rattle.bt_machine.specs.View.{StepsTo}
use Rattle.bt_machine.specs.declared.error.FlushError.{FlushError}
use Rattle.bt_machine.specs.declared.event.Event.TheVariants.{Flush}
use Rattle.bt_machine.specs.declared.event.Answer.TheVariants.{Flushed}
use Rattle.bt_transfer.specs.Turns.{told_as}

-- whether it was made or refused, a flush was answered, and that is told
pub flush_told : {D : Type 0} (conduct : Conduct D) (dig : List ℕ → List ℕ) (old new : EngineView D) (result : Result (Unit {0}) Fault)
    → OnOk result (StepsTo conduct dig old Flush (Flushed (Ok tt)) new)
    → IfErr result (λ fault. (error : FlushError) × (fault ≡ flush_fault error) × StepsTo conduct dig old Flush (Flushed (Err error)) new)
    → (answer : Result (Unit {0}) FlushError) × StepsTo conduct dig old Flush (Flushed answer) new × (result ≡ told_as answer)
flush_told conduct dig old new (Ok done) flushed failed = (Ok tt, flushed, refl)
flush_told conduct dig old new (Err fault) flushed failed = (Err failed.0, failed.2, ap (λ f. Err f) failed.1)
