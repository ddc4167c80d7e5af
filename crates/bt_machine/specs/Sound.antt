-- What honest devices have of the marked blocks of an engine, over its steps.
use Rattle.std.specs.Prelude.{[], ◌≡◌, ℕ, ◌<◌, List, ◌∷◌, Option, Some, slice_get}
use Rattle.bt_disk.specs.Conduct.{Conduct}
use Rattle.bt_sparse.specs.SparseTree.{Facts, blocks_of}
use Rattle.bt_store.specs.declared.block_states.BlockState.TheVariants.{Marked}
use Rattle.bt_machine.specs.declared.event.Event.{Event}
use Rattle.bt_resume.specs.ResumeLog.{LogView}
use Rattle.bt_machine.specs.State.{FileState, EngineState, EngineView}
use Rattle.bt_machine.specs.Devices.{HaveCalls}
use Rattle.bt_machine.specs.LogCalls.{EventCalls}
use Rattle.bt_machine.specs.Request.{IsFile}
use Rattle.bt_machine.specs.Stored.{AreRight, HasFile}
use Rattle.bt_meta.specs.Torrent.{Metainfo}
use Rattle.bt_machine.specs.Law.{AreRooted}
use Rattle.bt_machine.specs.Opening.{BeginsOn}
use Rattle.bt_machine.specs.declared.event.Answer.{Answer}
use Rattle.bt_machine.specs.Step.{Step}

-- on each honest device the marked blocks of its file are right
abbrev pub IsSound : {D : Type 0} → Conduct D → (List ℕ → List ℕ)
    → EngineState → List (Option D) → Type 0
IsSound {D} conduct dig s disks = (file : ℕ) (f : FileState) (k : Facts) (d : D) → IsFile s file f k
    → slice_get disks file ≡ Some (Some d) → conduct.honest d
    → AreRight dig k (conduct.history d).now.bytes f.states

-- An engine begins with right marked blocks on honest devices: without a log none is marked, and with one each was
-- read.
abbrev pub StartsSound : {D : Type 0} → Conduct D → (List ℕ → List ℕ) → Type 0
StartsSound {D} conduct dig = (torrent : Metainfo) (given : List (Option D))
    (log : Option (LogView D)) (first : EngineView D)
    → BeginsOn conduct dig torrent given log first
    → IsSound conduct dig first.state first.disks

-- Each event keeps the marked blocks of honest devices right, whatever the devices answer.
abbrev pub StepKeepsSound : {D : Type 0} → Conduct D → (List ℕ → List ℕ) → Type 0
StepKeepsSound {D} conduct dig = (old new : EngineState) (event : Event) (calls : EventCalls)
    (answer : Answer) (disks after : List (Option D))
    → Step dig old event calls answer new → HaveCalls conduct disks calls.devices after
    → IsSound conduct dig old disks → IsSound conduct dig new after

-- A list of events, one step after the other, with the devices that its calls were made of.
abbrev pub RunOn : {D : Type 0} → Conduct D → (List ℕ → List ℕ)
    → EngineState → List (Option D) → List Event → List EventCalls → List Answer
    → EngineState → List (Option D) → Type 0
RunOn {D} conduct dig old disks [] [] [] new after = (new ≡ old) × (after ≡ disks)
RunOn {D} conduct dig old disks (event ∷ events) (calls ∷ more) (answer ∷ answers) new after =
    (next : EngineState) × (between : List (Option D))
    × Step dig old event calls answer next × HaveCalls conduct disks calls.devices between
    × RunOn conduct dig next between events more answers new after
RunOn {D} conduct dig old disks _ _ _ new after = ⊥

-- A device that is honest after a list of events was there before it, and honest.
abbrev pub HonestDevicesWereSo : {D : Type 0} → Conduct D → (List ℕ → List ℕ)
    → Type 0
HonestDevicesWereSo {D} conduct dig = (old new : EngineState) (events : List Event)
    (calls : List EventCalls) (answers : List Answer) (disks after : List (Option D)) (file : ℕ) (e : D)
    → RunOn conduct dig old disks events calls answers new after
    → slice_get after file ≡ Some (Some e) → conduct.honest e
    → (d : D) × (slice_get disks file ≡ Some (Some d)) × conduct.honest d

-- Where an engine is sound, all blocks of a file are marked and its device is honest, the file stands there with its
-- tree's root.
-- root.
abbrev pub CompleteFilesStand : {D : Type 0} → Conduct D → (List ℕ → List ℕ) → Type 0
CompleteFilesStand {D} conduct dig = (s : EngineState) (disks : List (Option D))
    (file : ℕ) (f : FileState) (k : Facts) (d : D) → AreRooted dig s → IsSound conduct dig s disks
    → IsFile s file f k → 0 < k.file_length
    → ((i : ℕ) → i < blocks_of k → slice_get f.states i ≡ Some Marked)
    → slice_get disks file ≡ Some (Some d) → conduct.honest d → HasFile dig k (conduct.history d).now.bytes
