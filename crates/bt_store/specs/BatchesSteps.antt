-- Private steps: reads of blocks that lie next to each other, into a buffer that has a part for each.
use Rattle.std.specs.Prelude.{ℕ, zero, suc, ◌+◌, ◌==◌, if◌then◌else◌, List, [], ◌∷◌, ◌++◌, take, Option, Some, None, slice_index_or}
use Rattle.bt_tree.specs.Blocks.{block_at, block_length}
use Rattle.bt_store.specs.BlockReads.{BlockRead, given, failed}
use Rattle.bt_store.specs.declared.batches.BlockFound.{BlockFound}
use Rattle.bt_store.specs.declared.batches.BlockFound.TheVariants.{Whole, Short, Failed}

-- the read of block i that gave this many bytes, which the slot has, or failed
abbrev pub read_of : ℕ → Option ℕ → List ℕ → BlockRead
read_of i (Some count) slot = given i (take count slot)
read_of i None slot = failed i

-- the reads of this many blocks from the first on, of which the buffer has the bytes, and how many each gave
unfoldable pub batch_reads : ℕ → List (Option ℕ) → List ℕ → ℕ → List BlockRead
batch_reads first counts buffer zero = []
batch_reads first counts buffer (suc j) =
    batch_reads first counts buffer j
    ++ read_of (first + j) (slice_index_or counts j None) (block_at buffer j) ∷ []

-- what the read of block i found, in a file of this many bytes
abbrev pub found_of : (List ℕ → List ℕ) → ℕ → ℕ → Option ℕ → List ℕ → BlockFound
found_of dig n i (Some count) slot =
    if count == block_length n i then Whole (dig (take count slot)) else Short
found_of dig n i None slot = Failed
