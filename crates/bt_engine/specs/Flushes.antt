-- What a flush that answered Ok keeps, wherever events stop after it.
use Rattle.std.specs.Prelude.{◌≡◌, ℕ, List, ◌∷◌, ◌++◌, Some, Ok, slice_get}
use Rattle.bt_disk.specs.Conduct.{Conduct}
use Rattle.bt_disk.specs.History.{moment_of}
use Rattle.bt_sparse.specs.SparseTree.{Facts}
use Rattle.bt_store.specs.BlockReads.{IsRight}
use Rattle.bt_store.specs.declared.block_states.BlockState.TheVariants.{Marked}
use Rattle.bt_book.specs.declared.names.BlockId.{BlockId}
use Rattle.bt_machine.specs.declared.event.Event.{Event}
use Rattle.bt_machine.specs.declared.event.Event.TheVariants.{Flush}
use Rattle.bt_machine.specs.declared.event.Answer.{Answer}
use Rattle.bt_machine.specs.declared.event.Answer.TheVariants.{Flushed}
use Rattle.bt_machine.specs.State.{EngineState, EngineView}
use Rattle.bt_machine.specs.LogCalls.{EventCalls}
use Rattle.bt_machine.specs.Blocks.{state_at, tree_of}
use Rattle.bt_machine.specs.Stored.{stored_block}
use Rattle.bt_machine.specs.Crash.{IsBlockKept}
use Rattle.bt_machine.specs.Unmarks.{HasNoRestart}
use Rattle.bt_machine.specs.View.{StepsTo, RunsTo}

-- A block of a device since a flush: as `was` has it at the flush, it has the digest of its leaf; whatever a
-- stop at any moment since has left, it stands there so; and it is marked still.
pub record IsNotLost {D : Type 0} (conduct : Conduct D) (dig : List ℕ → List ℕ) (new : EngineState)
    (b : BlockId) (tree : Facts) (was now : D) : Type 0 where
  pub right : IsRight dig tree b.block (stored_block tree.file_length (conduct.history was).now.bytes b.block)
  pub kept : IsBlockKept (conduct.history now) (moment_of (conduct.history was)) b.block
      (stored_block tree.file_length (conduct.history was).now.bytes b.block)
  pub marked : state_at new b ≡ Some Marked

-- A stop at any moment from the first of these engines to the other, also within an event, loses no block
-- that was marked at the first, on an honest device.
abbrev pub LosesNoBlock : {D : Type 0} → Conduct D → (List ℕ → List ℕ) → EngineView D
    → EngineView D → Type 0
LosesNoBlock {D} conduct dig flushed new = (b : BlockId) (tree : Facts) (was now : D)
    → state_at flushed.state b ≡ Some Marked → tree_of flushed.state b.file ≡ Some tree
    → slice_get flushed.disks b.file ≡ Some (Some was) → slice_get new.disks b.file ≡ Some (Some now)
    → conduct.honest now → IsNotLost conduct dig new.state b tree was now

-- So it is of whatever events follow on a flush, up to a restart: what that marks it reads anew.
abbrev pub LosesNoBlockFrom : {D : Type 0} → Conduct D → (List ℕ → List ℕ)
    → EngineView D → Type 0
LosesNoBlockFrom {D} conduct dig flushed = (events : List Event) (answers : List Answer)
    (new : EngineView D) → HasNoRestart events → RunsTo conduct dig flushed events answers new
    → LosesNoBlock conduct dig flushed new

-- ---- a flush among events

-- A run came to a flush that answered Ok with these answers before it, and went on from it with those after.
-- From it on, up to a restart, no block is lost that was marked at it.
pub record IsFlushedAt {D : Type 0} (conduct : Conduct D)
    (dig : List ℕ → List ℕ) (first : EngineView D) (events : List Event) (calls : List EventCalls)
    (before after : List Answer) (last : EngineView D) : Type 0 where
  pub events_before : List Event
  pub events_after : List Event
  pub old : EngineView D
  pub flushed : EngineView D
  pub comes : RunsTo conduct dig first events_before before old
  pub flushes : StepsTo conduct dig old Flush (Flushed (Ok tt)) flushed
  pub goes_on : RunsTo conduct dig flushed events_after after last
  pub events_are : events ≡ events_before ++ Flush ∷ events_after
  pub calls_are : calls ≡ comes.calls ++ flushes.calls ∷ goes_on.calls
  pub none_lost : LosesNoBlockFrom conduct dig flushed

-- Once a flush answered Ok, a stop at any later moment up to a restart loses no block that was marked then.
abbrev pub FlushesLoseNoBlock : {D : Type 0} → Conduct D → (List ℕ → List ℕ)
    → EngineView D → List Event → List EventCalls → List Answer → EngineView D → Type 0
FlushesLoseNoBlock conduct dig old events calls answers new = (before after : List Answer)
    → answers ≡ before ++ Flushed (Ok tt) ∷ after
    → IsFlushedAt conduct dig old events calls before after new

-- ---- a flush before them

-- Of a flush before these events: what is not lost until then, no stop within them or after them loses. None
-- of these events is a restart.
abbrev pub KeepsFlushed : {D : Type 0} → Conduct D → (List ℕ → List ℕ)
    → EngineView D → EngineView D → Type 0
KeepsFlushed {D} conduct dig old new = (flushed : EngineView D) (events : List Event)
    (answers : List Answer) → RunsTo conduct dig flushed events answers old
    → LosesNoBlock conduct dig flushed old → LosesNoBlock conduct dig flushed new

-- Where a flush that answered Ok led to this engine: whatever events follow, a stop at any moment from then
-- on, up to a restart, loses no block that is marked now.
abbrev pub FlushedBlocksStay : {D : Type 0} → Conduct D → (List ℕ → List ℕ)
    → EngineView D → Type 0
FlushedBlocksStay {D} conduct dig flushed = (old : EngineView D)
    → StepsTo conduct dig old Flush (Flushed (Ok tt)) flushed
    → LosesNoBlockFrom conduct dig flushed
