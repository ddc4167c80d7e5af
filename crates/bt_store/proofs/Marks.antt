-- Blocks that are marked one after the other.
use Rattle.std.proofs.Common.{◌≡◌, ℕ, ◌+◌, List, refl, add-one}
use Rattle.std.specs.Prelude.{slice_set}
use Rattle.bt_store.specs.Adoption.{marked_group}
use Rattle.bt_store.specs.declared.block_states.BlockState.{BlockState}
use Rattle.bt_store.specs.declared.block_states.BlockState.TheVariants.{Marked}

pub marked_none : (first : ℕ) (states : List BlockState) → states ≡ marked_group first 0 states
unfolding marked_group
marked_none first states = refl

pub marked_more : (first count : ℕ) (states : List BlockState) → marked_group first (count + 1) states ≡ slice_set (marked_group first count states) (first + count) Marked
unfolding marked_group
marked_more first count states = rw (add-one count) refl
