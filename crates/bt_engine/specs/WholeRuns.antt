-- What is promised of every run from the start of a torrent, with a log or without, whatever peers send and
-- devices and the log answer.
use Rattle.std.specs.Prelude.{[], ◌≡◌, ℕ, ◌<◌, true, List, Option, Some, None, slice_get}
use Rattle.bt_tree.specs.Blocks.{block_count}
use Rattle.bt_disk.specs.Conduct.{Conduct}
use Rattle.bt_meta.specs.Files.{File}
use Rattle.bt_meta.specs.Torrent.{Metainfo, IsLawful}
use Rattle.bt_resume.specs.ResumeLog.{LogView}
use Rattle.bt_store.specs.declared.block_states.BlockState.TheVariants.{Marked}
use Rattle.bt_book.specs.declared.names.BlockId.{BlockId}
use Rattle.bt_machine.specs.declared.event.Event.{Event}
use Rattle.bt_machine.specs.declared.event.Answer.{Answer}
use Rattle.bt_machine.specs.State.{EngineState, EngineView}
use Rattle.bt_machine.specs.Devices.{DeviceCalls}
use Rattle.bt_machine.specs.Blocks.{block_id, is_complete, state_at}
use Rattle.bt_machine.specs.Headline.{IsPublished}
use Rattle.bt_machine.specs.Law.{IsRecovered}
use Rattle.bt_machine.specs.Opening.{BeginsOn}
use Rattle.bt_machine.specs.Opening.BeginsOn.{bare, with_log}
use Rattle.bt_machine.specs.Start.{AreDevicesOf}
use Rattle.bt_machine.specs.Unmarks.{HasNoRestart}
use Rattle.bt_machine.specs.View.{RunsTo}
use Rattle.bt_engine.specs.Flushes.{FlushesLoseNoBlock}
use Rattle.bt_engine.specs.Leads.{LeadsTo}
use Rattle.bt_engine.specs.Promises.{IsOnCheckedPath, IsMarkedOnPath, SendsReadBytes, StaysMarked}

-- ---- the start

-- the calls by which an engine was begun: with a log they read blocks, and without one there is none
abbrev pub starting_calls : {D : Type 0} {conduct : Conduct D}
    {dig : List ℕ → List ℕ} {torrent : Metainfo} {placed : List (Option D)} {log : Option (LogView D)}
    {first : EngineView D} → BeginsOn conduct dig torrent placed log first → DeviceCalls
starting_calls (bare no_log begun same unlogged) = []
starting_calls (with_log l calls is of_torrent begun made same) = calls

-- A block is marked as an engine begins: the log records it, and it was read by one of these calls. The
-- digest of its bytes lies at the block's leaf, on a checked path to the pieces root of its file.
pub record IsMarkedAtStart (dig : List ℕ → List ℕ) (calls : DeviceCalls) (first : EngineState) (b : BlockId)
    : Type 0 where
  pub recovered : IsRecovered dig calls first b
  pub on_path : IsOnCheckedPath dig first b recovered.bytes

-- ---- complete files

-- What a file's device has is the published file, where the device is honest. Only an empty file has no
-- device: it has no byte either, as every file of its length.
abbrev pub IsPublishedOn : {D : Type 0} → Conduct D → (List ℕ → List ℕ) → File → Option D
    → Type 0
IsPublishedOn conduct dig file None = file.length ≡ 0
IsPublishedOn conduct dig file (Some d) =
    conduct.honest d → IsPublished dig file (conduct.history d).now.bytes

-- so it is of each file of the torrent of which the engine reports that it is complete, an empty one too
abbrev pub CompleteIsPublished : {D : Type 0} → Conduct D → (List ℕ → List ℕ) → Metainfo
    → EngineView D → Type 0
CompleteIsPublished {D} conduct dig torrent s = (number : ℕ) (file : File) (disk : Option D)
    → slice_get torrent.files number ≡ Some file → is_complete s.state number ≡ true
    → slice_get s.disks number ≡ Some disk → IsPublishedOn conduct dig file disk

-- ---- a run from the start

module _ {D : Type 0} {conduct : Conduct D} {dig : List ℕ → List ℕ}
    {torrent : Metainfo} {placed : List (Option D)} {log : Option (LogView D)} {first : EngineView D}
    {events : List Event} {answers : List Answer} {last : EngineView D}
    (begins : BeginsOn conduct dig torrent placed log first)
    (runs : RunsTo conduct dig first events answers last) where
  -- A block is marked since an event of the run, or since the start, by bytes that came or were read then.
  -- Their digest lies at the block's leaf, on a checked path to the pieces root of its file.
  pub data IsMarkedInRun (b : BlockId) : Type 0 where
    at_event : IsMarkedOnPath dig first.state events runs.calls answers last.state b → IsMarkedInRun b
    at_start : IsMarkedAtStart dig (starting_calls begins) first.state b
        → StaysMarked dig first.state events runs.calls [] answers last.state b → IsMarkedInRun b

  -- so each block of the file of this number is
  abbrev pub IsFileMarkedOnPath : (number : ℕ) → File → Type 0
  IsFileMarkedOnPath number file = (i : ℕ) → i < block_count file.length → IsMarkedInRun (block_id number i)

  -- Each block that is marked is so by such bytes. All data that an answer sends is cut from blocks that were
  -- read in its own event, and the digest of each lies so. Of a file that is complete each block is marked
  -- so, and the file is the published one. What was marked at a flush that answered Ok no later stop loses,
  -- up to a restart.
  pub record IsWholeRun : Type 0 where
    pub marks : (b : BlockId) → state_at last.state b ≡ Some Marked → IsMarkedInRun b
    pub sends : SendsReadBytes dig first.state events runs.calls answers last.state
    pub complete : (number : ℕ) (file : File) → slice_get torrent.files number ≡ Some file
        → is_complete last.state number ≡ true → IsFileMarkedOnPath number file
    pub published : CompleteIsPublished conduct dig torrent last
    pub flushes : FlushesLoseNoBlock conduct dig first events runs.calls answers last

-- Every run from the start of a lawful torrent, over devices of its files, is so, be restarts among its
-- events or not.
abbrev pub WholeRunsKeepPromises : {D : Type 0} → Conduct D
    → (List ℕ → List ℕ) → Type 0
WholeRunsKeepPromises {D} conduct dig = (torrent : Metainfo) (given : List D)
    (placed : List (Option D)) (log : Option (LogView D)) (first last : EngineView D) (events : List Event)
    (answers : List Answer) (begins : BeginsOn conduct dig torrent placed log first)
    (runs : RunsTo conduct dig first events answers last)
    → IsLawful torrent.piece_length torrent.files → AreDevicesOf torrent.files given placed
    → IsWholeRun begins runs

-- ---- without a restart

-- events, none of them a restart, led from the engine that began to this one, as a run of which that is
-- promised
pub record HasWholeRun {D : Type 0} {conduct : Conduct D}
    {dig : List ℕ → List ℕ} {torrent : Metainfo} {placed : List (Option D)} {log : Option (LogView D)}
    {first : EngineView D} (begins : BeginsOn conduct dig torrent placed log first)
    (last : EngineView D) : Type 0 where
  pub events : List Event
  pub answers : List Answer
  pub no_restart : HasNoRestart events
  pub runs : RunsTo conduct dig first events answers last
  pub promised : IsWholeRun begins runs

-- so it is of whatever leads on from the start
abbrev pub WhatLeadsOnIsWhole : {D : Type 0} → Conduct D → (List ℕ → List ℕ)
    → Type 0
WhatLeadsOnIsWhole {D} conduct dig = (torrent : Metainfo) (given : List D)
    (placed : List (Option D)) (log : Option (LogView D)) (first last : EngineView D)
    (begins : BeginsOn conduct dig torrent placed log first)
    → IsLawful torrent.piece_length torrent.files → AreDevicesOf torrent.files given placed
    → LeadsTo conduct dig first last → HasWholeRun begins last
