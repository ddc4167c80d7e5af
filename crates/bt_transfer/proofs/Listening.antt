-- A listener's port that is told, and connections that are served then.
use Rattle.std.proofs.Common.{ℕ, List, Option, Result, Ok, Err}
use Rattle.std.specs.Io.KnownBytes.{Appends}
use Rattle.std.specs.Prelude.{OnOk}
use Rattle.bt_check.specs.declared.fault.Fault.{Fault}
use Rattle.bt_disk.specs.Conduct.{Conduct}
use Rattle.bt_machine.specs.State.{EngineView}
use Rattle.bt_transfer.specs.Seed.{HasListened, HasServedAll, IsPortFor, listening_line}
use Rattle.bt_words.specs.declared.peer.Service.{Service}

module _ {D : Type 0} (conduct : Conduct D) (dig : List ℕ → List ℕ) (service : Service)
    (old new : EngineView D) (before told after : Option (List ℕ)) where
  pub listened : (result : Result (Unit {0}) Fault) → (port : ℕ) × IsPortFor service.port port × Appends before told (listening_line port)
      → OnOk result (HasServedAll conduct dig service.serving old told after new)
      → OnOk result (HasListened conduct dig service old before after new)
  listened (Ok done) line served = record { port = line.0; told = told; listening = line.2; served = served; asked = line.1 }
  listened (Err fault) line served = tt
