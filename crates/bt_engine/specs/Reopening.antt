-- What an engine begins with where another one was stopped.
use Rattle.std.specs.Prelude.{◌≡◌, ◌≢◌, ◌↔◌, ℕ, List, length, Option, Some, Err}
use Rattle.bt_disk.specs.Conduct.{Conduct}
use Rattle.bt_meta.specs.Torrent.{Metainfo}
use Rattle.bt_resume.specs.ResumeLog.{LogView, Opens, IsAttached}
use Rattle.bt_resume.specs.Law.{IsNotOfBytes}
use Rattle.bt_resume.specs.declared.error.LogError.{LogError}
use Rattle.bt_machine.specs.declared.error.StartError.{StartError}
use Rattle.bt_machine.specs.declared.error.StartError.TheVariants.{DiskCount, OtherLog}
use Rattle.bt_machine.specs.Opening.{BeginsOn}
use Rattle.bt_machine.specs.Lives.{Lives}
use Rattle.bt_machine.specs.Reopening.{IsLogLeft}
use Rattle.bt_machine.specs.Start.{device_count, AreDevicesOf}
use Rattle.bt_machine.specs.State.{EngineView}
use Rattle.bt_machine.specs.Backing.{HasBacking}
use Rattle.bt_engine.specs.Reopened.{IsReopened}
use Rattle.bt_engine.specs.declared.reopening.ReopenError.TheVariants.{Log, Start}
use Rattle.bt_engine.specs.declared.reopening.ReopenRefused.{ReopenRefused}

-- devices and log are given back; only the count of the devices can be wrong, or memory be refused
pub record IsNotStarted {D : Type 0} (torrent : Metainfo) (given : List D) (opened : LogView D)
    (refused : ReopenRefused D) : Type 0 where
  pub cause : StartError
  pub same_cause : refused.cause ≡ Start cause
  pub same_torrent : cause ≢ OtherLog
  pub count : (cause ≡ DiskCount) ↔ (length given ≢ device_count torrent.files)
  pub same_disks : refused.disks.items ≡ given
  pub same_log : refused.log ≡ opened.disk

module _ {D : Type 0} (conduct : Conduct D)
    (dig : List ℕ → List ℕ) where
  -- The log was opened, and an engine of the torrent has begun with it over these devices. And so it marks
  -- again what was marked where another one was stopped, and is backed by the log.
  pub record HasReopened (torrent : Metainfo) (given : List D) (log : D) (engine : EngineView D) : Type 0
    where
      pub opened : LogView D
      pub attached : IsAttached conduct torrent.infohash log opened
      pub placed : List (Option D)
      pub devices : AreDevicesOf torrent.files given placed
      pub begins : BeginsOn conduct dig torrent placed (Some opened) engine
      pub again : IsReopened conduct dig torrent given (Some opened) engine
      pub backed : HasBacking conduct dig engine

  -- No log is refused for what its bytes are that a stop has left, at any moment since a flush that answered
  -- Ok, in its life or a later one, of that of an engine of the torrent.
  abbrev pub RefusesNoneFlushed : Metainfo → (log : D) → LogError → Type 0
  RefusesNoneFlushed torrent log cause = (flushed : EngineView D) (since now : List (Option D))
      (log_since log_now : D) → Lives conduct dig torrent flushed since now log_since log_now
      → IsLogLeft conduct log_since log_now log → IsNotOfBytes cause

  -- The log was not opened, or it was and no engine has begun. All is given back.
  pub data IsNotReopened (torrent : Metainfo) (given : List D) (log : D) (refused : ReopenRefused D) : Type 0
    where
      unopened : (cause : LogError) → refused.cause ≡ Log cause → refused.disks.items ≡ given
          → Opens conduct torrent.infohash log (Err cause) refused.log
          → RefusesNoneFlushed torrent log cause → IsNotReopened torrent given log refused
      unstarted : (opened : LogView D) → IsAttached conduct torrent.infohash log opened
          → IsNotStarted torrent given opened refused → IsNotReopened torrent given log refused
