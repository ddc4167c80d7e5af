-- What no event but a restart loses, on honest devices, and what a flush keeps.
use Rattle.std.specs.Prelude.{◌≡◌, ◌≢◌, ℕ, List, length, Some, slice_get}
use Rattle.bt_tree.specs.Blocks.{block_length}
use Rattle.bt_disk.specs.Conduct.{Conduct}
use Rattle.bt_disk.specs.History.{moment_of}
use Rattle.bt_sparse.specs.SparseTree.{Facts}
use Rattle.bt_resume.specs.LogText.{LogText, hints_in, IsText}
use Rattle.bt_resume.specs.ResumeLog.{LogView}
use Rattle.bt_resume.specs.Law.{KeepsFirst}
use Rattle.bt_store.specs.declared.block_states.BlockState.TheVariants.{Marked}
use Rattle.bt_book.specs.declared.names.BlockId.{BlockId}
use Rattle.bt_machine.specs.declared.event.Event.{Event}
use Rattle.bt_machine.specs.declared.event.Event.TheVariants.{Restart}
use Rattle.bt_machine.specs.declared.event.Answer.{Answer}
use Rattle.bt_machine.specs.State.{FileState, EngineView}
use Rattle.bt_machine.specs.Blocks.{state_at}
use Rattle.bt_machine.specs.Request.{IsFile}
use Rattle.bt_machine.specs.Crash.{IsBlockKept}
use Rattle.bt_machine.specs.Sound.{IsSound}
use Rattle.bt_machine.specs.Stored.{stored_block}
use Rattle.bt_machine.specs.Unmarks.{HasNoRestart}
use Rattle.bt_machine.specs.Backing.{HasBacking, IsBacked}
use Rattle.bt_machine.specs.View.{StepsTo, RunsTo}

module _ {D : Type 0} (conduct : Conduct D) where
  -- From one engine to the other, on honest devices: a marked block stays marked (`marks`). What every image
  -- since a moment has of a marked block, every image goes on to have, also those that a crash on the way
  -- leaves (`images`). The text that every image of the log since a moment begins with stands, in the log and
  -- in each image (`hints`).
  pub record Stands (old new : EngineView D) : Type 0 where
    pub marks : (b : BlockId) (d : D) → slice_get new.disks b.file ≡ Some (Some d) → conduct.honest d
        → state_at old.state b ≡ Some Marked → state_at new.state b ≡ Some Marked
    pub images : (file i moment : ℕ) (f : FileState) (k : Facts) (bytes : List ℕ) (d : D)
        → IsFile old.state file f k → slice_get f.states i ≡ Some Marked
        → length bytes ≡ block_length k.file_length i
        → slice_get new.disks file ≡ Some (Some d) → conduct.honest d
        → ((was : D) → slice_get old.disks file ≡ Some (Some was)
        → IsBlockKept (conduct.history was) moment i bytes)
        → IsBlockKept (conduct.history d) moment i bytes
    pub hints : (was log : LogView D) (moment : ℕ) (text : LogText) → old.log ≡ Some was
        → new.log ≡ Some log → conduct.honest log.disk → KeepsFirst conduct moment text was
        → KeepsFirst conduct moment text log

  -- each marked block of an honest device stands as it is now in every image from now on
  abbrev pub KeepsBlocks : EngineView D → Type 0
  KeepsBlocks s = (file i : ℕ) (f : FileState) (k : Facts) (d : D) → IsFile s.state file f k
      → slice_get f.states i ≡ Some Marked → slice_get s.disks file ≡ Some (Some d) → conduct.honest d
      → IsBlockKept (conduct.history d) (moment_of (conduct.history d)) i
      (stored_block k.file_length (conduct.history d).now.bytes i)

  -- Where the log, with what is pending, backed the engine before: an honest log has a text that backs it
  -- alone, since it has each mark and leads a torrent's trees to what is known, and every image of the log
  -- from now on begins with this text.
  abbrev pub KeepsHints : (List ℕ → List ℕ) → EngineView D → EngineView D → Type 0
  KeepsHints dig old new = HasBacking conduct dig old → (log : LogView D)
      → new.log ≡ Some log → conduct.honest log.disk
      → (text : LogText) × IsText text × IsBacked dig new.state (hints_in text)
      × KeepsFirst conduct (moment_of (conduct.history log.disk)) text log

  -- ---- laws

  -- So it is over any events of which none is a restart, where marked blocks are right on honest devices.
  abbrev pub RunsStand : (List ℕ → List ℕ) → Type 0
  RunsStand dig = (old new : EngineView D) (events : List Event) (answers : List Answer)
      → HasNoRestart events → IsSound conduct dig old.state old.disks
      → RunsTo conduct dig old events answers new → Stands old new

  -- and so over one event that is none
  abbrev pub StepsStand : (List ℕ → List ℕ) → Type 0
  StepsStand dig = (old new : EngineView D) (event : Event) (answer : Answer) → event ≢ Restart
      → IsSound conduct dig old.state old.disks
      → StepsTo conduct dig old event answer new → Stands old new
