-- What a contract sees of the blocks of one file.
use Rattle.std.specs.Prelude.{ℕ, List, replicate}
use Rattle.bt_tree.specs.Blocks.{block_count}
use Rattle.bt_store.specs.declared.block_states.BlockState.{BlockState}
use Rattle.bt_store.specs.declared.block_states.BlockState.TheVariants.{Missing}

-- the file's length in bytes, the device that its blocks lie on, and the state of each block
pub record StoreView (D : Type 0) : Type 0 where
  pub file_length : ℕ
  pub disk : D
  pub states : List BlockState

-- all blocks are missing
abbrev pub new_states : ℕ → List BlockState
new_states bytes = replicate (block_count bytes) Missing
