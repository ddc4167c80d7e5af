-- What becomes of one block that is read to be lent, or to be found again.
use Rattle.std.specs.Prelude.{◌≡◌, ◌≢◌, ℕ, ◌≤◌, ◌<◌, Bool, true, false, List, [], ◌∷◌, map, take, slice_get, slice_set, Some, IsSome, Result, Ok, Err}
use Rattle.bt_tree.specs.Blocks.{block_count, block_length}
use Rattle.bt_disk.specs.Conduct.{Conduct}
use Rattle.bt_disk.specs.Calls.{HasCalls}
use Rattle.bt_sparse.specs.SparseTree.{Facts, value_at}
use Rattle.bt_store.specs.FileStore.{StoreView}
use Rattle.bt_store.specs.BlockReads.{BlockRead, given, failed, call_of, IsRight}
use Rattle.bt_store.specs.Review.{is_marked_at}
use Rattle.bt_store.specs.declared.block_states.BlockState.{BlockState}
use Rattle.bt_store.specs.declared.block_states.BlockState.TheVariants.{Missing, Marked}
use Rattle.bt_store.specs.declared.error.ReadError.{ReadError}
use Rattle.bt_store.specs.declared.error.ReadError.TheVariants.{NotMarked, Damaged, Device as ReadDevice}
use Rattle.bt_store.specs.declared.error.StoreError.{StoreError}
use Rattle.bt_store.specs.declared.error.StoreError.TheVariants.{Range, Device}

-- Block i is read where it is marked: the read, the answer, of which `out` then begins with the bytes, and
-- the states.
pub data Lends (dig : List ℕ → List ℕ) (k : Facts) (i : ℕ) (out : List ℕ) (states : List BlockState)
    : List BlockRead → Result ℕ ReadError → List BlockState → Type 0 where
  not_marked : slice_get states i ≢ Some Marked → Lends dig k i out states [] (Err NotMarked) states
  right : (n : ℕ) → slice_get states i ≡ Some Marked → n ≡ block_length k.file_length i
      → IsRight dig k i (take n out)
      → Lends dig k i out states (given i (take n out) ∷ []) (Ok n) states
  damaged : (bytes : List ℕ) → slice_get states i ≡ Some Marked → ¬ IsRight dig k i bytes
      → Lends dig k i out states (given i bytes ∷ []) (Err Damaged) (slice_set states i Missing)
  fault : slice_get states i ≡ Some Marked → Lends dig k i out states (failed i ∷ []) (Err ReadDevice) states

-- the block is missing, and its leaf is known
pub record IsLost (dig : List ℕ → List ℕ) (k : Facts) (i : ℕ) (states : List BlockState) : Type 0 where
  pub missing : slice_get states i ≡ Some Missing
  pub known : IsSome (value_at dig k 0 i)

-- Block i is read where it is missing and its leaf is known: the read, whether the block is marked then,
-- and the states.
pub data Restores (dig : List ℕ → List ℕ) (k : Facts) (i : ℕ) (states : List BlockState)
    : List BlockRead → Result Bool StoreError → List BlockState → Type 0 where
  no_block : block_count k.file_length ≤ i → Restores dig k i states [] (Err Range) states
  unread : i < block_count k.file_length → ¬ IsLost dig k i states
      → Restores dig k i states [] (Ok (is_marked_at states i)) states
  right : (bytes : List ℕ) → IsLost dig k i states → IsRight dig k i bytes
      → Restores dig k i states (given i bytes ∷ []) (Ok true) (slice_set states i Marked)
  wrong : (bytes : List ℕ) → IsLost dig k i states → ¬ IsRight dig k i bytes
      → Restores dig k i states (given i bytes ∷ []) (Ok false) states
  fault : IsLost dig k i states → Restores dig k i states (failed i ∷ []) (Err Device) states

-- these reads were made, no other call failed or changed an honest device, and the answer and the states are
-- those that `Lends` says
pub record IsLent {D : Type 0} (conduct : Conduct D)
    (dig : List ℕ → List ℕ) (k : Facts) (i : ℕ) (out : List ℕ) (old : StoreView D) (reads : List BlockRead)
    (result : Result ℕ ReadError) (new : StoreView D) : Type 0 where
  pub calls : HasCalls conduct old.disk (map (call_of old.file_length) reads) new.disk
  pub answer : Lends dig k i out old.states reads result new.states
  pub same_file : new.file_length ≡ old.file_length

-- these reads were made, no other call failed or changed an honest device, and the answer and the states are
-- those that `Restores` says
pub record IsRestored {D : Type 0} (conduct : Conduct D)
    (dig : List ℕ → List ℕ) (k : Facts) (i : ℕ) (old : StoreView D) (reads : List BlockRead)
    (result : Result Bool StoreError) (new : StoreView D) : Type 0 where
  pub calls : HasCalls conduct old.disk (map (call_of old.file_length) reads) new.disk
  pub answer : Restores dig k i old.states reads result new.states
  pub same_file : new.file_length ≡ old.file_length
