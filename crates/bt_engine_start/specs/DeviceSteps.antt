-- The slots of files, once devices were handed out. No public contract cites them.
use Rattle.std.specs.Prelude.{◌≡◌, ℕ, ◌<◌, List, Some, None, map, filter_map, slice_get}
use Rattle.bt_meta.specs.Files.{File}
use Rattle.bt_store.specs.FileStore.{StoreView, new_states}
use Rattle.bt_engine_state.specs.Parts.{disk_of}
use Rattle.bt_engine_state.specs.declared.slot.Slot.{Slot}

-- the devices that files have, in their order
abbrev pub devices_in : {D H : Type 0} → List (Slot D H) → List D
devices_in slots = filter_map (λ disk. disk) (map disk_of slots)

-- a store of the file, of which all blocks are missing; none where the file is empty
pub record IsNewSlot {D H : Type 0} (file : File) (slot : Slot D H) : Type 0 where
  pub empty : file.length ≡ 0 → slot.store ≡ None
  pub some : 0 < file.length → (store : StoreView D) × (slot.store ≡ Some store)
      × (store.file_length ≡ file.length) × (store.states ≡ new_states file.length)

abbrev pub AreNewSlots : {D H : Type 0} → List File → List (Slot D H) → Type 0
AreNewSlots {D} {H} files slots = (i : ℕ) (file : File) (slot : Slot D H)
    → slice_get files i ≡ Some file → slice_get slots i ≡ Some slot → IsNewSlot file slot
