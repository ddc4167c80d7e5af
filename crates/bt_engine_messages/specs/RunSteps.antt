-- The blocks of a run, settled in every file of a tree.
use Rattle.std.specs.Prelude.{[], ◌≡◌, ℕ, List, ◌++◌, length, map, flat_map, Option, Some, None, option_map, slice_get}
use Rattle.std.specs.List.{range_with_len}
use Rattle.bt_disk.specs.Conduct.{Conduct}
use Rattle.bt_disk.specs.Calls.{Call, HasCalls}
use Rattle.bt_sparse.specs.SparseTree.{Facts}
use Rattle.bt_store.specs.FileStore.{StoreView}
use Rattle.bt_store.specs.BlockReads.{BlockRead, block_of, call_of}
use Rattle.bt_machine.specs.declared.answer.Note.{Note}
use Rattle.bt_machine.specs.Settling.{judged_file, settling_notes, due_blocks}
use Rattle.bt_engine_state.specs.Parts.{file_of, disk_of}
use Rattle.bt_engine_state.specs.declared.slot.Slot.{Slot}

-- these calls were made of a device, or none where there is none
abbrev pub HasCallsIfAny : {D : Type 0} → Conduct D → Option D → List Call
    → Option D → Type 0
HasCallsIfAny conduct None calls new = (calls ≡ []) × (new ≡ None)
HasCallsIfAny {D} conduct (Some disk) calls new =
    (after : D) × (new ≡ Some after) × HasCalls conduct disk calls after

-- how many bytes its store's file has, if it has one
abbrev pub length_in : {D H : Type 0} → Slot D H → Option ℕ
length_in slot = option_map (λ store. store.file_length) slot.store

-- in a file of the tree, those of this many blocks from one on were read back that wait and whose leaf is known
pub record SettlesSlot {D H : Type 0} (conduct : Conduct D)
    (dig : List ℕ → List ℕ) (k : Facts) (tree from count : ℕ) (old : Slot D H) (reads : List BlockRead)
    (new : Slot D H) : Type 0 where
  pub due : map block_of reads ≡ due_blocks dig k tree from count (file_of old)
  pub judged : file_of new ≡ judged_file dig k reads (file_of old)
  pub same_file : length_in new ≡ length_in old
  pub made : HasCallsIfAny conduct
      (disk_of old) (map (call_of k.file_length) reads) (disk_of new)

-- a slot of the tree has a store of the tree's length
abbrev pub FitsLength : {D H : Type 0} → Facts → (tree : ℕ) → Slot D H → Type 0
FitsLength {D} k tree slot =
    slot.tree ≡ tree → (store : StoreView D) → slot.store ≡ Some store → k.file_length ≡ store.file_length

-- It was done in every file, in the order of files, and the notes of each were added.
pub record SettlesSlots {D H : Type 0} (conduct : Conduct D)
    (dig : List ℕ → List ℕ) (k : Facts) (tree from count : ℕ) (old : List (Slot D H))
    (before after : List Note) (new : List (Slot D H)) : Type 0 where
  pub reads : ℕ → List BlockRead
  pub each : (file : ℕ) (slot : Slot D H) → slice_get old file ≡ Some slot
      → (settled : Slot D H) × (slice_get new file ≡ Some settled)
      × SettlesSlot conduct dig k tree from count slot (reads file) settled
  pub size : length new ≡ length old
  pub noted : after
      ≡ before ++ flat_map (λ file. settling_notes dig k file (reads file)) (range_with_len 0 (length old))
