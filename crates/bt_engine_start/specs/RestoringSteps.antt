-- Files of a torrent whose recorded blocks are read. No public contract cites it.
use Rattle.std.specs.Prelude.{◌≡◌, ℕ, List, length, map, Option, Some, option_map, slice_get}
use Rattle.std.specs.List.{range_with_len}
use Rattle.bt_disk.specs.Conduct.{Conduct}
use Rattle.bt_sparse.specs.SparseTree.{Facts}
use Rattle.bt_resume.specs.declared.hint.Hint.{Hint}
use Rattle.bt_machine.specs.State.{EngineState}
use Rattle.bt_machine.specs.Devices.{DeviceCalls, HaveCalls}
use Rattle.bt_machine.specs.Recovery.{RestoresFiles}
use Rattle.bt_engine_state.specs.Parts.{file_of, disk_of}
use Rattle.bt_engine_state.specs.declared.slot.Slot.{Slot}

-- which tree a file has, and how long it is; an empty file has no length here
abbrev pub tree_and_length : {D H : Type 0} → Slot D H → ℕ × Option ℕ
tree_and_length slot = (slot.tree, option_map (λ store. store.file_length) slot.store)

-- how many blocks it has
abbrev pub block_total : {D H : Type 0} → Slot D H → ℕ
block_total slot = length (file_of slot).states

-- the file's tree is one of these, and of a file as long
abbrev pub HasTree : List Facts → ℕ × Option ℕ → Type 0
HasTree trees named = (n : ℕ) → named.1 ≡ Some n
    → (k : Facts) × (slice_get trees named.0 ≡ Some k) × (k.file_length ≡ n)

abbrev pub HaveTrees : {D H : Type 0} → List Facts → List (Slot D H) → Type 0
HaveTrees {D} {H} trees slots = (file : ℕ) (slot : Slot D H) → slice_get slots file ≡ Some slot
    → HasTree trees (tree_and_length slot)

-- In every engine that has these trees and files, the machine restores the files so, by calls of these
-- devices.
pub record RestoresSlots {D H : Type 0} (conduct : Conduct D)
    (dig : List ℕ → List ℕ) (hints : List Hint) (trees : List Facts) (old new : List (Slot D H))
    : Type 0 where
  pub calls : DeviceCalls
  pub made : HaveCalls conduct (map disk_of old) calls (map disk_of new)
  pub restores : (s : EngineState) → s.trees ≡ trees → s.files ≡ map file_of old
      → RestoresFiles dig hints (range_with_len 0 (length old)) s calls
      (record s { files = map file_of new })
