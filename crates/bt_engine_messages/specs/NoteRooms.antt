-- How many notes blocks that are settled come to at most.
use Rattle.std.specs.Prelude.{ℕ, ◌+◌, ◌==◌, min, if◌then◌else◌, List}
use Rattle.std.specs.List.{count_by}
use Rattle.std.specs.Option.{option_map_or}
use Rattle.std.specs.Vec.{vec_len}
use Rattle.bt_sparse.specs.Answer.{max_run_length}
use Rattle.bt_store.specs.BlockStates.{is_waiting}
use Rattle.bt_store.specs.declared.block_states.BlockState.{BlockState}
use Rattle.bt_hashreq.specs.declared.key.HashKey.{HashKey}
use Rattle.bt_machine.specs.HashMessages.{settled_count}
use Rattle.bt_engine_state.specs.declared.slot.Slot.{Slot}
use Rattle.bt_engine_messages.specs.declared.learning.Learnt.{Learnt}
use Rattle.bt_engine_messages.specs.declared.learning.Learnt.TheVariants.{Refused, Settled}

-- of this many blocks: one for each, and one for the device, where there is a block
abbrev pub with_device : ℕ → ℕ
with_device blocks = blocks + min blocks 1

-- of a file: of the blocks that wait, but of no more than this many
abbrev pub note_room : (count : ℕ) → List BlockState → ℕ
note_room count states = with_device (min count (count_by is_waiting states))

-- the same of a slot, if it is of this tree
abbrev pub slot_room : {D H : Type 0} → (tree count : ℕ) → Slot D H → ℕ
slot_room tree count slot =
    if slot.tree == tree then option_map_or (λ store. note_room count store.states) slot.store 0 else 0

-- how many blocks of a file are settled at most
abbrev pub run_room : HashKey → ℕ
run_room key = min (settled_count key) max_run_length

-- how many notes hashes came to
abbrev pub note_count : Learnt → ℕ
note_count (Refused why) = 0
note_count (Settled notes hint) = vec_len notes
