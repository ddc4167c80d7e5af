-- A log that is full, which ends a fetch or a seed.
use Rattle.std.specs.Prelude.{ℕ, Bool, List, Option, Err}
use Rattle.std.specs.Borrow.{Bor}
use Rattle.sha2.specs.Sha256.{sha256}
use Rattle.bt_disk.specs.Conduct.{Conduct}
use Rattle.bt_machine.specs.declared.error.FlushError.TheVariants.{LogFull}
use Rattle.bt_machine.specs.declared.event.Event.TheVariants.{Flush}
use Rattle.bt_machine.specs.declared.event.Answer.TheVariants.{Flushed}
use Rattle.bt_machine.specs.State.{EngineView}
use Rattle.bt_machine.specs.View.{StepsTo}
use Rattle.bt_engine.specs.Leads.{LeadsTo}
use Rattle.bt_files.specs.DataFiles.{DeviceView}
use Rattle.bt_files.specs.Loading.{IsLoaded}
use Rattle.bt_files.specs.Store.{device_conduct}
use Rattle.bt_files.specs.declared.file_use.FileUse.{FileUse}

-- Events led on from an engine to a flush that found its log full.
pub record FindsLogFull {D : Type 0} (conduct : Conduct D)
    (dig : List ℕ → List ℕ) (old : EngineView D) : Type 0 where
  pub mid : EngineView D
  pub led : LeadsTo conduct dig old mid
  pub last : EngineView D
  pub full : StepsTo conduct dig mid Flush (Flushed (Err LogFull)) last

-- The store of a torrent of some text was opened so, and events led on from its engine to such a flush.
pub record HasFilledLog (is_info : Bool) (usage : FileUse) (dir : List ℕ) (log : Option (Bor (List ℕ)))
    : Type 0 where
  pub store : EngineView DeviceView
  pub loaded : IsLoaded is_info usage dir log store
  pub found : FindsLogFull device_conduct sha256 store
