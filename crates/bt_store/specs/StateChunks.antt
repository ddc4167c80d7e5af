-- How the states of a file's blocks are kept by chunks of 65,536 blocks.
use Rattle.std.specs.Prelude.{ℕ, ◌/◌, ◌%◌, ◌<◌, List, [], length, map, slice_index_or}
use Rattle.std.specs.List.{range_with_len}
use Rattle.bt_store.specs.declared.block_states.BlockState.{BlockState}
use Rattle.bt_store.specs.declared.block_states.BlockState.TheVariants.{Missing}

-- the states of so many blocks, of which those past the list are missing
abbrev pub padded : ℕ → List BlockState → List BlockState
padded count states = map (λ i. slice_index_or states i Missing) (range_with_len 0 count)

abbrev pub state_in : List (List BlockState) → ℕ → BlockState
state_in chunks i = slice_index_or (slice_index_or chunks (i / 65536) []) (i % 65536) Missing

-- the states of so many blocks, by their chunks
abbrev pub states_of : ℕ → List (List BlockState) → List BlockState
states_of count chunks = map (state_in chunks) (range_with_len 0 count)

-- each block has its place in a chunk
abbrev pub HavePlaces : ℕ → List (List BlockState) → Type 0
HavePlaces count chunks = (i : ℕ) → i < count → i % 65536 < length (slice_index_or chunks (i / 65536) [])
