-- How the counts follow a block.
use Rattle.std.specs.Prelude.{ℕ, cond}
use Rattle.bt_store.specs.BlockStates.{is_marked, is_waiting}
use Rattle.bt_store.specs.declared.block_states.BlockState.{BlockState}

-- one, where a block of this state is marked
abbrev pub mark_count : BlockState → ℕ
mark_count state = cond (is_marked state) 1 0

-- one, where a block of this state waits
abbrev pub wait_count : BlockState → ℕ
wait_count state = cond (is_waiting state) 1 0
