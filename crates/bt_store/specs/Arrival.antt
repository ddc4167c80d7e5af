-- What becomes of a block that comes: when it is refused, when it is written, and which states the blocks
-- have then.
use Rattle.std.specs.Prelude.{◌≡◌, ◌≢◌, ℕ, ◌*◌, ◌<◌, List, [], ◌∷◌, length, slice_get, slice_set, Option, Some, None, Result, Ok, Err}
use Rattle.bt_tree.specs.Limits.{full_block_length}
use Rattle.bt_tree.specs.Blocks.{block_count, block_length}
use Rattle.bt_disk.specs.Calls.{Call, bytes_written, write_fault}
use Rattle.bt_sparse.specs.SparseTree.{Facts, value_at}
use Rattle.bt_store.specs.declared.block_states.BlockState.{BlockState}
use Rattle.bt_store.specs.declared.block_states.BlockState.TheVariants.{Missing, Waiting, Marked}
use Rattle.bt_store.specs.declared.error.StoreError.{StoreError}
use Rattle.bt_store.specs.declared.error.StoreError.TheVariants.{Range, Device}
use Rattle.bt_store.specs.declared.arrival.Put.{Put}
use Rattle.bt_store.specs.declared.arrival.Put.TheVariants.{Already, Wrong, Marked as PutMarked, Waiting as PutWaiting}

-- a file of this many bytes has block i, and these bytes are as many as it has
pub record IsBlock (n i : ℕ) (bytes : List ℕ) : Type 0 where
  pub inside : i < block_count n
  pub whole : length bytes ≡ block_length n i

-- the leaf is known, and is another than the digest of the bytes
abbrev pub IsWrong : (List ℕ → List ℕ) → Option (List ℕ) → List ℕ → Type 0
IsWrong dig leaf bytes = (d : List ℕ) × (leaf ≡ Some d) × (d ≢ dig bytes)

-- the leaf is unknown, or is the digest of the bytes
abbrev pub IsNotWrong : (List ℕ → List ℕ) → Option (List ℕ) → List ℕ → Type 0
IsNotWrong dig leaf bytes = (d : List ℕ) → leaf ≡ Some d → d ≡ dig bytes

-- when each answer is due
abbrev pub PutIsDue : (List ℕ → List ℕ) → Facts → ℕ → List ℕ → List BlockState → Result Put StoreError
    → Type 0
PutIsDue dig k i bytes states (Err Range) = ¬ IsBlock k.file_length i bytes
PutIsDue dig k i bytes states (Ok Already) =
    IsBlock k.file_length i bytes × (slice_get states i ≢ Some Missing)
PutIsDue dig k i bytes states (Ok Wrong) =
    IsBlock k.file_length i bytes × (slice_get states i ≡ Some Missing)
    × IsWrong dig (value_at dig k 0 i) bytes
PutIsDue dig k i bytes states (Ok PutMarked) =
    IsBlock k.file_length i bytes × (slice_get states i ≡ Some Missing)
    × (value_at dig k 0 i ≡ Some (dig bytes))
PutIsDue dig k i bytes states (Ok PutWaiting) =
    IsBlock k.file_length i bytes × (slice_get states i ≡ Some Missing) × (value_at dig k 0 i ≡ None)
PutIsDue dig k i bytes states (Err Device) =
    IsBlock k.file_length i bytes × (slice_get states i ≡ Some Missing)
    × IsNotWrong dig (value_at dig k 0 i) bytes

-- the calls of the device that were made: a write of the block at its place, or none
abbrev pub calls_of_put : ℕ → List ℕ → Result Put StoreError → List Call
calls_of_put i bytes (Ok PutMarked) = bytes_written (full_block_length * i) bytes ∷ []
calls_of_put i bytes (Ok PutWaiting) = bytes_written (full_block_length * i) bytes ∷ []
calls_of_put i bytes (Err Device) = write_fault (full_block_length * i) bytes ∷ []
calls_of_put i bytes (Ok Already) = []
calls_of_put i bytes (Ok Wrong) = []
calls_of_put i bytes (Err Range) = []

-- the states of the blocks then
abbrev pub states_after_put : ℕ → Result Put StoreError → List BlockState → List BlockState
states_after_put i (Ok PutMarked) states = slice_set states i Marked
states_after_put i (Ok PutWaiting) states = slice_set states i Waiting
states_after_put i (Ok Already) states = states
states_after_put i (Ok Wrong) states = states
states_after_put i (Err _) states = states
