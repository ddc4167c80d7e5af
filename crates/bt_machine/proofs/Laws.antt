-- Laws of one event and of one flush, from which those of runs follow.
use Rattle.std.specs.Prelude.{◌≡◌, ◌≢◌, ℕ, List, Ok, Option, Some, slice_get, Contains}
use Rattle.bt_book.specs.declared.names.BlockId.{BlockId}
use Rattle.bt_book.specs.declared.names.PeerKey.{PeerKey}
use Rattle.bt_disk.specs.Conduct.{Conduct}
use Rattle.bt_disk.specs.History.{moment_of}
use Rattle.bt_sparse.specs.SparseTree.{Facts}
use Rattle.bt_store.specs.declared.block_states.BlockState.TheVariants.{Marked}
use Rattle.bt_wire.specs.declared.message.Message.TheVariants.{Piece}
use Rattle.bt_machine.specs.Blocks.{state_at}
use Rattle.bt_machine.specs.Devices.{HaveCalls}
use Rattle.bt_machine.specs.Law.{sent_by, IsServed}
use Rattle.bt_machine.specs.LogCalls.{EventCalls}
use Rattle.bt_machine.specs.Request.{IsFile}
use Rattle.bt_machine.specs.Sound.{IsSound, RunOn}
use Rattle.bt_machine.specs.State.{FileState, EngineState}
use Rattle.bt_machine.specs.Step.{Step}
use Rattle.bt_machine.specs.Survival.{IsRightSince}
use Rattle.bt_machine.specs.Unmarks.{HasNoRestart}
use Rattle.bt_machine.specs.declared.answer.Frame.TheVariants.{Message as message_frame}
use Rattle.bt_machine.specs.declared.event.Answer.{Answer}
use Rattle.bt_machine.specs.declared.event.Answer.TheVariants.{Flushed}
use Rattle.bt_machine.specs.declared.event.Event.{Event}
use Rattle.bt_machine.specs.declared.event.Event.TheVariants.{Flush, Restart}

-- No other data is sent than was read.
abbrev pub StepSendsReadBytes : (List ℕ → List ℕ) → Type 0
StepSendsReadBytes dig = (old new : EngineState) (event : Event) (calls : EventCalls) (answer : Answer)
    → Step dig old event calls answer new
    → (key : PeerKey) (piece begin : ℕ) (bytes : List ℕ)
    → Contains (sent_by answer) (key, message_frame (Piece piece begin bytes))
    → IsServed dig old event calls.devices key piece begin bytes

-- But for a restart a block stays marked on an honest device, where it was right.
abbrev pub StepKeepsMarks : {D : Type 0} → Conduct D → (List ℕ → List ℕ) → Type 0
StepKeepsMarks {D} conduct dig = (old new : EngineState) (event : Event) (calls : EventCalls)
    (answer : Answer) (disks after : List (Option D)) (b : BlockId) (e : D) → event ≢ Restart
    → Step dig old event calls answer new → HaveCalls conduct disks calls.devices after
    → IsSound conduct dig old disks → slice_get after b.file ≡ Some (Some e) → conduct.honest e
    → state_at old b ≡ Some Marked → state_at new b ≡ Some Marked

-- Whatever a crash leaves at any moment after a flush that answered Ok, also within an event, each block that was marked then
-- is right in it.
abbrev pub FlushedBlocksSurvive : {D : Type 0} → Conduct D
    → (List ℕ → List ℕ) → Type 0
FlushedBlocksSurvive {D} conduct dig = (old at_flush new : EngineState) (synced : EventCalls)
    (events : List Event) (calls : List EventCalls) (answers : List Answer)
    (disks flushed after : List (Option D)) (file i : ℕ) (f : FileState) (k : Facts) (d e : D)
    → IsSound conduct dig old disks → HasNoRestart events
    → Step dig old Flush synced (Flushed (Ok tt)) at_flush
    → HaveCalls conduct disks synced.devices flushed
    → RunOn conduct dig at_flush flushed events calls answers new after
    → IsFile old file f k → slice_get f.states i ≡ Some Marked
    → slice_get flushed file ≡ Some (Some d) → slice_get after file ≡ Some (Some e) → conduct.honest e
    → IsRightSince dig k (conduct.history e) (moment_of (conduct.history d)) i
