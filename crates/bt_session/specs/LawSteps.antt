-- What no session loses.
use Rattle.std.specs.Prelude.{ℕ, Bool, List, Result}
use Rattle.bt_disk.specs.Conduct.{Conduct}
use Rattle.bt_machine.specs.declared.error.FlushError.{FlushError}
use Rattle.bt_machine.specs.Sound.{IsSound}
use Rattle.bt_engine.specs.Standing.{Stands}
use Rattle.bt_session.specs.declared.end.SessionEnd.{SessionEnd}
use Rattle.bt_session.specs.declared.flushing.Flushing.{Flushing}
use Rattle.bt_session.specs.Progress.{Place}
use Rattle.bt_session.specs.Ends.{IsSession}

-- Where marked blocks are right on honest devices as a session begins: a block that is marked stays marked on
-- them, and what every image of a device or of the log has since a moment, every later one has.
abbrev pub SessionsStand : {D : Type 0} → Conduct D → (List ℕ → List ℕ)
    → Type 0
SessionsStand {D} conduct dig = (until_complete : Bool) (flushing : Flushing) (given : ℕ)
    (first last : Place D) (end : Result SessionEnd FlushError) → IsSound conduct dig first.engine.state first.engine.disks
    → IsSession conduct dig until_complete flushing given first end last
    → Stands conduct first.engine last.engine
