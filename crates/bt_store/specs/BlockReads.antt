-- Reads of blocks, each with what the device gave, and what they make of the blocks' states.
use Rattle.std.specs.Prelude.{◌≡◌, ℕ, ◌*◌, Bool, true, false, not, ◌&&◌, ◌==◌, nat_eq, if◌then◌else◌, List, [], ◌∷◌, length, map, slice_set, Option, Some, None}
use Rattle.std.specs.List.{count_by}
use Rattle.std.specs.Cmp.Lexicographic.{pointwise}
use Rattle.bt_tree.specs.Limits.{full_block_length}
use Rattle.bt_tree.specs.Blocks.{block_length}
use Rattle.bt_disk.specs.Conduct.{Conduct}
use Rattle.bt_disk.specs.Calls.{Call, bytes_given, read_fault, HasCalls}
use Rattle.bt_sparse.specs.SparseTree.{Facts, value_at}
use Rattle.bt_store.specs.FileStore.{StoreView}
use Rattle.bt_store.specs.declared.block_states.BlockState.{BlockState}
use Rattle.bt_store.specs.declared.block_states.BlockState.TheVariants.{Missing, Marked}

-- the read of a block: it gave these bytes, or it failed
pub data BlockRead : Type 0 where
  given : (block : ℕ) (bytes : List ℕ) → BlockRead
  failed : (block : ℕ) → BlockRead

abbrev pub block_of : BlockRead → ℕ
block_of (given i bytes) = i
block_of (failed i) = i

-- the call of the device that it is, in a file of this many bytes: one for the whole block, at its place
abbrev pub call_of : ℕ → BlockRead → Call
call_of n (given i bytes) = bytes_given (full_block_length * i) (block_length n i) bytes
call_of n (failed i) = read_fault (full_block_length * i) (block_length n i)

-- Between old and new these blocks were read, and no other call failed or changed an honest device. A read
-- that succeeds leaves no trace, so how many there were, and in which order, is not said.
pub record AreReads {D : Type 0} (conduct : Conduct D) (n : ℕ)
    (blocks : List ℕ) (old : D) (reads : List BlockRead) (new : D) : Type 0 where
  pub in_order : map block_of reads ≡ blocks
  pub calls : HasCalls conduct old (map (call_of n) reads) new

-- a leaf that is known and this digest are the same
abbrev pub is_leaf : Option (List ℕ) → List ℕ → Bool
is_leaf None digest = false
is_leaf (Some leaf) digest = pointwise nat_eq leaf digest

-- the bytes are a whole block, and their digest is the leaf that the tree knows of it
abbrev pub is_right : (List ℕ → List ℕ) → Facts → ℕ → List ℕ → Bool
is_right dig k i bytes =
    (length bytes == block_length k.file_length i) && is_leaf (value_at dig k 0 i) (dig bytes)

-- the same as a fact
pub record IsRight (dig : List ℕ → List ℕ) (k : Facts) (i : ℕ) (bytes : List ℕ) : Type 0 where
  pub whole : length bytes ≡ block_length k.file_length i
  pub leaf : value_at dig k 0 i ≡ Some (dig bytes)

-- A block whose read gave its right bytes is marked, any other becomes missing; where the read failed, the
-- block stays as it is if `forgiving` says so, and else becomes missing.
abbrev pub after_read : (List ℕ → List ℕ) → Facts → (forgiving : Bool) → BlockRead → List BlockState
    → List BlockState
after_read dig k forgiving (given i bytes) states =
    slice_set states i (if is_right dig k i bytes then Marked else Missing)
after_read dig k forgiving (failed i) states = if forgiving then states else slice_set states i Missing

-- after several reads
abbrev pub judged : (List ℕ → List ℕ) → Facts → (forgiving : Bool) → List BlockRead → List BlockState
    → List BlockState
judged dig k forgiving [] states = states
judged dig k forgiving (read ∷ reads) states =
    judged dig k forgiving reads (after_read dig k forgiving read states)

-- These blocks were read and judged; the file's length stays.
pub record IsJudged {D : Type 0} (conduct : Conduct D)
    (dig : List ℕ → List ℕ) (k : Facts) (forgiving : Bool) (blocks : List ℕ)
    (old : StoreView D) (reads : List BlockRead) (new : StoreView D) : Type 0 where
  pub device : AreReads conduct old.file_length blocks old.disk reads new.disk
  pub states : new.states ≡ judged dig k forgiving reads old.states
  pub same_file : new.file_length ≡ old.file_length

abbrev pub is_right_read : (List ℕ → List ℕ) → Facts → BlockRead → Bool
is_right_read dig k (given i bytes) = is_right dig k i bytes
is_right_read dig k (failed i) = false

abbrev pub is_wrong_read : (List ℕ → List ℕ) → Facts → BlockRead → Bool
is_wrong_read dig k (given i bytes) = not (is_right dig k i bytes)
is_wrong_read dig k (failed i) = false

abbrev pub is_fault : BlockRead → Bool
is_fault (given i bytes) = false
is_fault (failed i) = true

-- how many reads gave right bytes, wrong ones, and none

abbrev pub right_count : (List ℕ → List ℕ) → Facts → List BlockRead → ℕ
right_count dig k reads = count_by (is_right_read dig k) reads

abbrev pub wrong_count : (List ℕ → List ℕ) → Facts → List BlockRead → ℕ
wrong_count dig k reads = count_by (is_wrong_read dig k) reads

abbrev pub fault_count : List BlockRead → ℕ
fault_count reads = count_by is_fault reads
