-- The store of a file, in its slot and with its tree, and the slots where it changes.
use Rattle.std.specs.Prelude.{◌≡◌, ℕ, List, Some, slice_get, slice_set}
use Rattle.bt_sparse.specs.SparseTree.{Facts}
use Rattle.bt_store.specs.FileStore.{StoreView}
use Rattle.bt_engine_state.specs.declared.slot.Slot.{Slot}

-- a file has this store, of this tree
pub record HasStore {D H : Type 0} (slots : List (Slot D H)) (trees : List Facts) (file : ℕ) (slot : Slot D H)
    (store : StoreView D) (tree : Facts) : Type 0 where
  pub here : slice_get slots file ≡ Some slot
  pub has : slot.store ≡ Some store
  pub has_tree : slice_get trees slot.tree ≡ Some tree
  pub same_length : tree.file_length ≡ store.file_length

-- the store of a file has become another of the same file, and no other slot changed
pub record ChangesStore {D H : Type 0} (trees : List Facts) (file : ℕ) (old : List (Slot D H))
    (before after : StoreView D) (tree : Facts) (new : List (Slot D H)) : Type 0 where
  pub slot : Slot D H
  pub has_store : HasStore old trees file slot before tree
  pub same_file : after.file_length ≡ before.file_length
  pub is : new ≡ slice_set old file (record slot { store = Some after })
