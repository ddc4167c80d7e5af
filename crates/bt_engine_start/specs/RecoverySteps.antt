-- The files of an engine are restored, in its parts. No public contract cites it.
use Rattle.std.specs.Prelude.{[], ◌≡◌, ℕ, List, length, Some, slice_get}
use Rattle.std.specs.List.{range_with_len}
use Rattle.bt_disk.specs.Conduct.{Conduct}
use Rattle.bt_sparse.specs.SparseTree.{Facts}
use Rattle.bt_resume.specs.declared.hint.Hint.{Hint}
use Rattle.bt_store.specs.FileStore.{StoreView, new_states}
use Rattle.bt_machine.specs.Devices.{DeviceCalls, HaveCalls}
use Rattle.bt_machine.specs.Recovery.{RestoresFiles}
use Rattle.bt_machine.specs.Shape.{IsShaped}
use Rattle.bt_machine.specs.Start.{IsNew}
use Rattle.bt_engine_state.specs.Parts.{state_of, disks_of}
use Rattle.bt_engine_state.specs.Ties.{IsTied}
use Rattle.bt_engine_state.specs.declared.slot.Slot.{Slot}
use Rattle.bt_engine_state.specs.declared.parts.Parts.{Parts}
use Rattle.bt_engine_start.specs.Taking.{TakeHints}

-- all blocks are missing
abbrev pub AreMissing : {D H : Type 0} → List (Slot D H) → Type 0
AreMissing {D} {H} slots = (file : ℕ) (slot : Slot D H) (store : StoreView D)
    → slice_get slots file ≡ Some slot → slot.store ≡ Some store → store.states ≡ new_states store.file_length

-- All has begun, but that no file is restored yet: the trees are what the torrent says of them, and have
-- taken the proofs of these hints; all blocks are missing, and no peer is connected.
pub record HaveBegun {D H : Type 0} (dig : List ℕ → List ℕ) (hints : List Hint) (parts : Parts D H)
    : Type 0 where
  pub bases : List Facts
  pub is_new : IsNew dig parts.torrent bases (state_of parts).files
  pub takes : TakeHints dig hints bases parts.trees.items
  pub missing : AreMissing parts.slots.items
  pub alone : parts.peers.items ≡ []
  pub shaped : IsShaped parts.torrent (state_of parts)
  pub tied : IsTied parts

-- the machine restores its files, by the hints that were last read from its log
pub record RecoversFiles {D H : Type 0} (conduct : Conduct D)
    (dig : List ℕ → List ℕ) (old new : Parts D H) : Type 0 where
  pub calls : DeviceCalls
  pub made : HaveCalls conduct (disks_of old) calls (disks_of new)
  pub restores : RestoresFiles dig (state_of old).hints (range_with_len 0 (length (state_of old).files))
      (state_of old) calls (state_of new)
