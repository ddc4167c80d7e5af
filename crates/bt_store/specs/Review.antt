-- Which blocks are read again, and which are recalled for it.
use Rattle.std.specs.Prelude.{ℕ, Bool, false, ◌&&◌, if◌then◌else◌, is_some, List, length, filter, slice_get, slice_set}
use Rattle.std.specs.Option.{option_map_or}
use Rattle.std.specs.List.{range_with_len}
use Rattle.bt_sparse.specs.SparseTree.{Facts, value_at}
use Rattle.bt_store.specs.BlockStates.{is_missing, is_marked, is_waiting}
use Rattle.bt_store.specs.declared.block_states.BlockState.{BlockState}
use Rattle.bt_store.specs.declared.block_states.BlockState.TheVariants.{Waiting}

abbrev pub is_waiting_at : List BlockState → ℕ → Bool
is_waiting_at states i = option_map_or is_waiting (slice_get states i) false

abbrev pub is_missing_at : List BlockState → ℕ → Bool
is_missing_at states i = option_map_or is_missing (slice_get states i) false

abbrev pub is_marked_at : List BlockState → ℕ → Bool
is_marked_at states i = option_map_or is_marked (slice_get states i) false

-- Block i is recalled: a missing block waits then, and any other stays as it is.
abbrev pub recalled : List BlockState → ℕ → List BlockState
recalled states i = if is_missing_at states i then slice_set states i Waiting else states

-- of this many blocks from one on, those that wait and whose leaf is known
abbrev pub waiting_blocks : (List ℕ → List ℕ) → Facts → List BlockState → (from count : ℕ) → List ℕ
waiting_blocks dig k states from count =
    filter (λ i. is_waiting_at states i && is_some (value_at dig k 0 i)) (range_with_len from count)

-- all blocks that are marked
abbrev pub marked_blocks : List BlockState → List ℕ
marked_blocks states = filter (is_marked_at states) (range_with_len 0 (length states))
