-- Slots of files whose waiting blocks are read. No public contract cites it.
use Rattle.std.specs.Prelude.{◌≡◌, ℕ, false, List, length, Some, None, slice_get}
use Rattle.bt_disk.specs.Conduct.{Conduct}
use Rattle.bt_sparse.specs.SparseTree.{Facts}
use Rattle.bt_store.specs.FileStore.{StoreView}
use Rattle.bt_store.specs.BlockReads.{BlockRead, IsJudged}
use Rattle.bt_store.specs.Review.{waiting_blocks}
use Rattle.bt_engine_state.specs.declared.slot.Slot.{Slot}

-- all waiting blocks of a store whose leaves are known were read, and the slot has the store as it is then
pub record HasReads {D H : Type 0} (conduct : Conduct D)
    (dig : List ℕ → List ℕ) (k : Facts) (slot : Slot D H) (store : StoreView D) (new : Slot D H)
    : Type 0 where
  pub after : StoreView D
  pub reads : List BlockRead
  pub judged : IsJudged conduct dig k false
      (waiting_blocks dig k store.states 0 (length store.states)) store reads after
  pub changed : new ≡ record slot { store = Some after }

-- so it is where the file has a block and its tree is there; an empty file stays
pub record IsSettled {D H : Type 0} (conduct : Conduct D)
    (dig : List ℕ → List ℕ) (trees : List Facts) (old new : Slot D H) : Type 0 where
  pub empty : old.store ≡ None → new ≡ old
  pub read : (store : StoreView D) (k : Facts) → old.store ≡ Some store → slice_get trees old.tree ≡ Some k
      → HasReads conduct dig k old store new
