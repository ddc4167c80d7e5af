-- What stands from a flush on over several lives of an engine: each begins with what a stop of the life before it has
-- left of devices and of the log.
use Rattle.std.specs.Prelude.{◌≡◌, ℕ, List, Option, Some, Result, MatchResult, slice_get, ⊤}
use Rattle.bt_disk.specs.Conduct.{Conduct}
use Rattle.bt_disk.specs.History.{moment_of}
use Rattle.bt_disk.specs.State.{IsImage, synced_state}
use Rattle.bt_meta.specs.Torrent.{Metainfo}
use Rattle.bt_sparse.specs.SparseTree.{Facts}
use Rattle.bt_resume.specs.LogText.{LogText}
use Rattle.bt_resume.specs.ResumeLog.{LogView, Opens, IsAttached}
use Rattle.bt_resume.specs.Law.{IsNotOfBytes}
use Rattle.bt_resume.specs.declared.error.LogError.{LogError}
use Rattle.bt_store.specs.declared.block_states.BlockState.TheVariants.{Marked}
use Rattle.bt_book.specs.declared.names.BlockId.{BlockId}
use Rattle.bt_machine.specs.declared.event.Event.{Event}
use Rattle.bt_machine.specs.declared.event.Answer.{Answer}
use Rattle.bt_machine.specs.State.{EngineView}
use Rattle.bt_machine.specs.Blocks.{state_at, tree_of}
use Rattle.bt_machine.specs.Opening.{BeginsOn}
use Rattle.bt_machine.specs.Reopening.{NoneFailed, RestartsReadAll, AreLeft, IsLogLeft, RunsPastFlush, HasBase}
use Rattle.bt_machine.specs.Survival.{IsRightSince}
use Rattle.bt_machine.specs.View.{RunsTo}

-- Nothing waits to be synced: a crash now leaves what a read gives. So it is of a device that is what a stop has left.
abbrev pub IsSettled : {D : Type 0} → Conduct D → D → Type 0
IsSettled {D} conduct d = (image : List ℕ) → IsImage (conduct.history d).now image
    → image ≡ (conduct.history d).now.bytes

abbrev pub AreSettled : {D : Type 0} → Conduct D → List (Option D) → Type 0
AreSettled {D} conduct disks = (file : ℕ) (d : D) → slice_get disks file ≡ Some (Some d) → IsSettled conduct d

-- A life after a stop: the log was opened that this had left, an engine was started with it over these devices, and
-- events followed.
pub record IsLife {D : Type 0} (conduct : Conduct D) (dig : List ℕ → List ℕ) (torrent : Metainfo)
    (left : List (Option D)) (log_left : D) (last : EngineView D) (stopped : LogView D) : Type 0 where
  pub opened : LogView D
  pub first : EngineView D
  pub events : List Event
  pub answers : List Answer
  pub attached : IsAttached conduct torrent.infohash log_left opened
  pub begins : BeginsOn conduct dig torrent left (Some opened) first
  pub run : RunsTo conduct dig first events answers last
  pub stopped_is : last.log ≡ Some stopped

-- From a flush that answered Ok on: the devices and the log's device as they were when the present life began, or at
-- the flush in its own life, and as they are. A further life begins with the log's device as a stop has left it. In
-- one that is refused the log was opened, or it was not, and no engine has begun.
pub data Lives {D : Type 0} (conduct : Conduct D) (dig : List ℕ → List ℕ) (torrent : Metainfo)
    (flushed : EngineView D) : (since now : List (Option D)) → (log_since log_now : D) → Type 0 where
  own : (last : EngineView D) (synced stopped : LogView D)
      → RunsPastFlush conduct dig torrent flushed last synced stopped
      → Lives conduct dig torrent flushed flushed.disks last.disks synced.disk stopped.disk
  further : (since now left : List (Option D)) (log_since log_now log_left : D) (last : EngineView D)
      (stopped : LogView D) → Lives conduct dig torrent flushed since now log_since log_now
      → IsLogLeft conduct log_since log_now log_left → IsSettled conduct log_left
      → IsLife conduct dig torrent left log_left last stopped
      → Lives conduct dig torrent flushed left last.disks log_left stopped.disk
  refused : (since now left : List (Option D)) (log_since log_now log_left new : D)
      (result : Result LogText LogError) → Lives conduct dig torrent flushed since now log_since log_now
      → IsLogLeft conduct log_since log_now log_left → IsSettled conduct log_left
      → Opens conduct torrent.infohash log_left result new
      → Lives conduct dig torrent flushed left left log_left new

-- Each life began with its devices as a stop has left them, and no read failed then, nor in a restart since the flush.
-- And the log backed the engine at the flush.
abbrev pub ReadAll : {D : Type 0} {conduct : Conduct D} {dig : List ℕ → List ℕ} {torrent : Metainfo}
    {flushed : EngineView D} {since now : List (Option D)} {log_since log_now : D}
    → Lives conduct dig torrent flushed since now log_since log_now → Type 0
ReadAll (own last synced stopped r) = HasBase r × RestartsReadAll r.later r.goes_on.calls
ReadAll {conduct = conduct}
    (further since now left log_since log_now log_left last stopped before is settled life) =
    ReadAll before × AreLeft conduct since now left × AreSettled conduct left
    × NoneFailed conduct left life.first.disks × RestartsReadAll life.events life.run.calls
ReadAll {conduct = conduct}
    (refused since now left log_since log_now log_left new result before is settled opens) =
    ReadAll before × AreLeft conduct since now left × AreSettled conduct left

-- ---- laws

-- Nothing waits on a device where all is on the medium: one that has just been made, or synced.
abbrev pub SyncedIsSettled : {D : Type 0} → Conduct D → Type 0
SyncedIsSettled {D} conduct = (d : D) (bytes : List ℕ) → (conduct.history d).now ≡ synced_state bytes
    → IsSettled conduct d

-- Once a flush answered Ok on an engine with a log, a stop at any later moment, in any later life, also within an
-- event, leaves devices and a log over which every block is marked that was marked at the flush: where they are opened
-- and started with the same torrent, and no read failed. A restart since then counts as a reopening: no read of it
-- failed either.
abbrev pub FlushedBlocksAreMarkedAgain : {D : Type 0} → Conduct D
    → (List ℕ → List ℕ) → Type 0
FlushedBlocksAreMarkedAgain {D} conduct dig = (torrent : Metainfo) (flushed : EngineView D)
    (since now left : List (Option D)) (log_since log_now log_left : D) (opened : LogView D)
    (again : EngineView D) (b : BlockId)
    → (lives : Lives conduct dig torrent flushed since now log_since log_now) → ReadAll lives
    → AreLeft conduct since now left → IsLogLeft conduct log_since log_now log_left
    → IsAttached conduct torrent.infohash log_left opened
    → BeginsOn conduct dig torrent left (Some opened) again → NoneFailed conduct left again.disks
    → state_at flushed.state b ≡ Some Marked → state_at again.state b ≡ Some Marked

-- So each image that such a stop can leave of an honest device has each of its blocks right that was marked at
-- the flush.
abbrev pub FlushedBlocksAreKept : {D : Type 0} → Conduct D → (List ℕ → List ℕ) → Type 0
FlushedBlocksAreKept {D} conduct dig = (torrent : Metainfo) (flushed : EngineView D)
    (since now : List (Option D)) (log_since log_now : D) (b : BlockId) (k : Facts) (d e : D)
    → (lives : Lives conduct dig torrent flushed since now log_since log_now) → ReadAll lives
    → conduct.honest log_now → tree_of flushed.state b.file ≡ Some k
    → state_at flushed.state b ≡ Some Marked → slice_get since b.file ≡ Some (Some d)
    → slice_get now b.file ≡ Some (Some e) → conduct.honest e
    → IsRightSince dig k (conduct.history e) (moment_of (conduct.history d)) b.block

-- And a log that such a stop has left is not refused for what its bytes are, whatever the devices of files have.
abbrev pub FlushedLogsOpen : {D : Type 0} → Conduct D → (List ℕ → List ℕ) → Type 0
FlushedLogsOpen {D} conduct dig = (torrent : Metainfo) (flushed : EngineView D)
    (since now : List (Option D)) (log_since log_now left new : D) (result : Result LogText LogError)
    → Lives conduct dig torrent flushed since now log_since log_now → IsLogLeft conduct log_since log_now left
    → Opens conduct torrent.infohash left result new → MatchResult result (λ _. ⊤) IsNotOfBytes
