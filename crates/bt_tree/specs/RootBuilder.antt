-- What a builder of one node has of the blocks below it.
use Rattle.std.specs.Prelude.{◌≡◌, ℕ, ◌+◌, ◌-◌, ◌*◌, ◌%◌, ◌^◌, ◌<◌, ◌≤◌, ◌⊎◌, min, List, [], length}
use Rattle.bt_tree.specs.Limits.{full_block_length, max_height}
use Rattle.bt_tree.specs.Blocks.{block_count, HasRun}
use Rattle.bt_tree.specs.Tree.{node_digest}
use Rattle.bt_tree.specs.Peaks.{peaks_of, peak_count}

-- A builder: how many bytes the file has, which node of its tree is built, how many of the node's blocks
-- came, and the digests of the widest whole nodes over them, the leftmost first.
pub record BuilderState : Type 0 where
  pub file_length : ℕ
  pub layer : ℕ
  pub index : ℕ
  pub count : ℕ
  pub peaks : List (List ℕ)

abbrev pub state_of : ℕ → ℕ → ℕ → ℕ → List (List ℕ) → BuilderState
state_of file_length layer index count peaks =
    record { file_length = file_length; layer = layer; index = index; count = count; peaks = peaks }

-- a builder of this node before its first block
abbrev pub initial_state : ℕ → ℕ → ℕ → BuilderState
initial_state file_length layer index = state_of file_length layer index 0 []

-- the first block below the node
abbrev pub first_block : BuilderState → ℕ
first_block b = b.index * 2 ^ b.layer

-- the block that comes next
abbrev pub next_block : BuilderState → ℕ
next_block b = first_block b + b.count

-- how many blocks lie below the node
abbrev pub blocks_below : BuilderState → ℕ
blocks_below b = min (2 ^ b.layer) (block_count b.file_length - first_block b)

-- the digests of the widest whole nodes over the first `count` blocks of a file from block `first` on
abbrev pub file_peaks : (List ℕ → List ℕ) → List ℕ → ℕ → ℕ → List (List ℕ)
file_peaks dig file first count = peaks_of dig (λ i. node_digest dig file 0 (first + i)) count

-- What the builder keeps is what this file's blocks give: the file has the builder's length, and the digests
-- that are kept are those of its blocks, as many as came, from the node's first on. Of the bytes that were
-- pushed it says nothing else.
pub record BuildsFrom (dig : List ℕ → List ℕ) (b : BuilderState) (file : List ℕ) : Type 0 where
  pub file_length : length file ≡ b.file_length
  pub peaks : b.peaks ≡ file_peaks dig file (first_block b) b.count

-- the byte at which the node's blocks end, in the file
abbrev pub node_end : BuilderState → ℕ
node_end b = min (full_block_length * (first_block b + 2 ^ b.layer)) b.file_length

-- this many bytes are one or more whole blocks, the next ones below the node: they end where a block does, at
-- the node's end at most
pub record IsNextRun (b : BuilderState) (bytes : ℕ) : Type 0 where
  pub some : 0 < bytes
  pub inside : full_block_length * next_block b + bytes ≤ node_end b
  pub whole : (bytes % full_block_length ≡ 0) ⊎ (full_block_length * next_block b + bytes ≡ b.file_length)

-- the run is one or more blocks of the file, from this block on
pub record IsBlocksOf (file : List ℕ) (block : ℕ) (run : List ℕ) : Type 0 where
  pub here : HasRun file (full_block_length * block) run
  pub whole : (length run % full_block_length ≡ 0) ⊎ (full_block_length * block + length run ≡ length file)

-- the same node, with `blocks` more blocks
pub record TakesBlocks (old new : BuilderState) (blocks : ℕ) : Type 0 where
  pub file_length : new.file_length ≡ old.file_length
  pub layer : new.layer ≡ old.layer
  pub index : new.index ≡ old.index
  pub count : new.count ≡ old.count + blocks

-- as many blocks of the same node came
pub record IsAsFar (b c : BuilderState) : Type 0 where
  pub file_length : b.file_length ≡ c.file_length
  pub layer : b.layer ≡ c.layer
  pub index : b.index ≡ c.index
  pub count : b.count ≡ c.count

-- every block below the node came
abbrev pub IsComplete : BuilderState → Type 0
IsComplete b = b.count ≡ blocks_below b

-- what holds of every builder, which keeps how many blocks lie below its node
pub record IsSound (b : BuilderState) (blocks : ℕ) : Type 0 where
  pub high : b.layer ≤ max_height
  pub real : first_block b < block_count b.file_length
  pub below : blocks ≡ blocks_below b
  pub within : b.count ≤ blocks
  pub size : length b.peaks ≡ peak_count max_height b.count
