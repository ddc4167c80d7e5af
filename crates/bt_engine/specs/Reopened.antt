-- What is marked again where a stop after a flush has left devices and a log.
use Rattle.std.specs.Prelude.{◌≡◌, ℕ, List, Option, Some}
use Rattle.bt_disk.specs.Conduct.{Conduct}
use Rattle.bt_meta.specs.Torrent.{Metainfo}
use Rattle.bt_resume.specs.ResumeLog.{LogView, IsAttached}
use Rattle.bt_store.specs.declared.block_states.BlockState.TheVariants.{Marked}
use Rattle.bt_book.specs.declared.names.BlockId.{BlockId}
use Rattle.bt_machine.specs.State.{EngineView}
use Rattle.bt_machine.specs.Blocks.{state_at}
use Rattle.bt_machine.specs.Start.{AreDevicesOf}
use Rattle.bt_machine.specs.Backing.{HasBacking}
use Rattle.bt_machine.specs.Lives.{Lives, ReadAll}
use Rattle.bt_machine.specs.Reopening.{AreLeft, IsLogLeft, NoneFailed}

module _ {D : Type 0} (conduct : Conduct D)
    (dig : List ℕ → List ℕ) where
  -- An engine has begun over these devices and this log. Where they are what a stop has left of those of an
  -- engine of the torrent, at any moment since a flush that answered Ok, in the life of the flush or in a
  -- later one that began with what such a stop had left, and the log was opened, and no read failed: each
  -- block is marked that was marked at the flush. A restart since the flush, and the start of each later
  -- life, counts as a reopening: no read of it failed either. Of the restarts before the flush none ran out
  -- of memory since the last one that was accepted, and where none was, no call was made of the log between
  -- its opening and the start.
  abbrev pub MarksAgain : Metainfo → (left : List (Option D)) → (opened : LogView D) → EngineView D → Type 0
  MarksAgain torrent left opened again = (flushed : EngineView D) (since now : List (Option D))
      (log_since log_now log_left : D) (b : BlockId)
      → (lives : Lives conduct dig torrent flushed since now log_since log_now) → ReadAll lives
      → AreLeft conduct since now left → IsLogLeft conduct log_since log_now log_left
      → IsAttached conduct torrent.infohash log_left opened → NoneFailed conduct left again.disks
      → state_at flushed.state b ≡ Some Marked → state_at again.state b ≡ Some Marked

  -- so it is with the devices of the torrent's files, and a log, where there is one
  pub record IsReopened (torrent : Metainfo) (given : List D) (log : Option (LogView D))
      (again : EngineView D) : Type 0 where
    pub placed : List (Option D)
    pub devices : AreDevicesOf torrent.files given placed
    pub marks : (opened : LogView D) → log ≡ Some opened → MarksAgain torrent placed opened again

  -- where the log was opened for this torrent, it backs the engine
  abbrev pub IsBackedByLog : Metainfo → Option (LogView D) → EngineView D → Type 0
  IsBackedByLog torrent log engine = (disk : D) (opened : LogView D) → log ≡ Some opened
      → IsAttached conduct torrent.infohash disk opened → HasBacking conduct dig engine
