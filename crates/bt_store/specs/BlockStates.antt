-- The states of a file's blocks, and how many blocks have each state.
use Rattle.std.specs.Prelude.{◌≡◌, ℕ, ◌≤◌, Bool, true, false, List, length}
use Rattle.std.specs.List.{count_by}
use Rattle.bt_tree.specs.Limits.{max_block_count}
use Rattle.bt_store.specs.declared.block_states.BlockState.{BlockState}
use Rattle.bt_store.specs.declared.block_states.BlockState.TheVariants.{Missing, Waiting, Marked}

abbrev pub is_marked : BlockState → Bool
is_marked Missing = false
is_marked Waiting = false
is_marked Marked = true

abbrev pub is_missing : BlockState → Bool
is_missing Missing = true
is_missing Waiting = false
is_missing Marked = false

abbrev pub is_waiting : BlockState → Bool
is_waiting Missing = false
is_waiting Waiting = true
is_waiting Marked = false

-- of these blocks `marked` are marked, and `waiting` wait
pub record HasCounts (states : List BlockState) (marked waiting : ℕ) : Type 0 where
  pub marked_count : marked ≡ count_by is_marked states
  pub waiting_count : waiting ≡ count_by is_waiting states
  pub few : length states ≤ max_block_count
