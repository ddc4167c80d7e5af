-- How the devices of slots are synced, one after the other, and how what waits is written to the log.
use Rattle.std.specs.Prelude.{[], ◌≡◌, ℕ, ◌<◌, List, ◌∷◌, map, length, Option, Some, None, option_map, Result, Ok, Err}
use Rattle.bt_disk.specs.Conduct.{Conduct}
use Rattle.bt_disk.specs.Calls.{HasCalls, sync_call}
use Rattle.bt_disk.specs.declared.disk.DeviceFault.{DeviceFault}
use Rattle.bt_store.specs.FileStore.{StoreView}
use Rattle.bt_store.specs.declared.block_states.BlockState.{BlockState}
use Rattle.bt_machine.specs.declared.error.FlushError.{FlushError}
use Rattle.bt_machine.specs.State.{EngineState}
use Rattle.bt_machine.specs.Devices.{DeviceCalls, HaveCalls}
use Rattle.bt_machine.specs.LogCalls.{LogCall, on_devices, AreLogCalls}
use Rattle.bt_machine.specs.Flush.{data_files, syncs_of, StepFlush}
use Rattle.bt_engine_state.specs.Writing.{WritesHints}
use Rattle.bt_engine_state.specs.Parts.{file_of, disk_of}
use Rattle.bt_engine_state.specs.declared.open_log.OpenLog.{OpenLog}
use Rattle.bt_engine_state.specs.declared.slot.Slot.{Slot}

-- the slot's device was synced, where it has one, and nothing else changed; a store has a block
pub data SyncsSlot
    {D H : Type 0} (conduct : Conduct D)
    (old : Slot D H) (answer : Result (Unit {0}) DeviceFault) (new : Slot D H) : Type 0 where
  syncs : (store : StoreView D) (disk : D) → old.store ≡ Some store → 0 < length store.states
      → HasCalls conduct store.disk (sync_call answer ∷ []) disk
      → new ≡ record old { store = Some (record store { disk = disk }) }
      → SyncsSlot conduct old answer new
  rests : old.store ≡ None → answer ≡ Ok tt → new ≡ old → SyncsSlot conduct old answer new

-- a store and a slot but for the device: a file's length and the states of its blocks, and a slot's tree
abbrev pub store_without_disk : {D : Type 0} → StoreView D → ℕ × List BlockState
store_without_disk store = (store.file_length, store.states)

abbrev pub without_disk : {D H : Type 0} → Slot D H → ℕ × Option (ℕ × List BlockState)
without_disk slot = (slot.tree, option_map store_without_disk slot.store)

-- All data devices were synced; or those up to the first that failed, and with that the machine's flush ends,
-- with or without a log.
abbrev pub SyncsData : EngineState → DeviceCalls → Result (Unit {0}) FlushError → Type 0
SyncsData s calls (Ok _) = calls ≡ syncs_of (data_files s)
SyncsData s calls (Err cause) = StepFlush s (on_devices calls) (Err cause) s

-- The devices were synced as those of an engine of these files. All else stays.
pub record SyncsSlots
    {D H : Type 0} (conduct : Conduct D)
    (old : List (Slot D H)) (answer : Result (Unit {0}) FlushError) (new : List (Slot D H)) : Type 0 where
  pub calls : DeviceCalls
  pub have : HaveCalls conduct (map disk_of old) calls (map disk_of new)
  pub synced : (s : EngineState) → s.files ≡ map file_of old → SyncsData s calls answer
  pub others : map without_disk new ≡ map without_disk old

-- What waits was written to the log, where there is one.
pub data WritesLog
    {D : Type 0} (conduct : Conduct D)
    (old : Option (OpenLog D)) (answer : Result (Unit {0}) FlushError) (new : Option (OpenLog D))
    : Type 0 where
  writes : (before after : OpenLog D) (calls : List LogCall) → old ≡ Some before → new ≡ Some after
      → AreLogCalls conduct before.log calls after.log
      → WritesHints before.pending.hints calls answer after.pending.hints
      → WritesLog conduct old answer new
  no_log : old ≡ None → answer ≡ Ok tt → new ≡ old → WritesLog conduct old answer new
