-- Files of a tree that are settled.
use Rattle.std.specs.Prelude.{[], ◌≡◌, ℕ, ◌<◌, Bool, List, Some}
use Rattle.std.specs.List.{count_by}
use Rattle.bt_disk.specs.Conduct.{Conduct}
use Rattle.bt_store.specs.FileStore.{StoreView}
use Rattle.bt_store.specs.BlockStates.{is_waiting}
use Rattle.bt_machine.specs.declared.answer.Note.{Note}
use Rattle.bt_machine.specs.State.{EngineState}
use Rattle.bt_machine.specs.Devices.{DeviceCalls, HaveCalls}
use Rattle.bt_machine.specs.Settling.{SettlesIn}
use Rattle.bt_machine.specs.Next.{with_pending}
use Rattle.bt_machine.specs.Adopting.{is_other}
use Rattle.bt_engine_state.specs.Parts.{state_of, disks_of}
use Rattle.bt_engine_state.specs.declared.slot.Slot.{Slot}
use Rattle.bt_engine_state.specs.declared.parts.Parts.{Parts}
use Rattle.bt_engine_after.specs.PartsSteps.{block_count_of_tree}

-- all blocks of the meant files of a tree are settled, by calls of these devices
abbrev pub SettlesFiles : {D H : Type 0} → Conduct D → (List ℕ → List ℕ)
    → (ℕ → Bool) → ℕ → Parts D H → Parts D H → Type 0
SettlesFiles conduct dig is_meant tree old new = (calls : DeviceCalls) × (notes : List Note)
    × HaveCalls conduct (disks_of old) calls (disks_of new)
    × SettlesIn dig is_meant tree 0 (block_count_of_tree (state_of old) tree) (state_of old) calls notes
    (state_of new)

-- the file is of the tree, and has a block that waits
pub record IsDue {D H : Type 0} (tree : ℕ) (slot : Slot D H) : Type 0 where
  pub store : StoreView D
  pub has : slot.store ≡ Some store
  pub of_tree : slot.tree ≡ tree
  pub waits : 0 < count_by is_waiting store.states

-- all blocks of the other files of a tree are settled, and what became marked is pending
pub record SettlesOthers {D H : Type 0} (conduct : Conduct D)
    (dig : List ℕ → List ℕ) (file tree : ℕ) (old new : Parts D H) : Type 0 where
  pub calls : DeviceCalls
  pub notes : List Note
  pub settled : EngineState
  pub made : HaveCalls conduct (disks_of old) calls (disks_of new)
  pub settles : SettlesIn dig (is_other file) tree 0 (block_count_of_tree (state_of old) tree)
      (state_of old) calls notes settled
  pub after : state_of new ≡ with_pending (state_of old) settled []
