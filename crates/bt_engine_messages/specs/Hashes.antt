-- How many notes hashes that come to an engine may have.
use Rattle.std.specs.Prelude.{◌≡◌, ℕ}
use Rattle.std.specs.List.{sum_by}
use Rattle.bt_sparse.specs.SparseTree.{Facts}
use Rattle.bt_hashreq.specs.declared.key.HashKey.{HashKey}
use Rattle.bt_machine.specs.HashMessages.{IsTreeOf, IsUnknownRoot}
use Rattle.bt_engine_state.specs.Parts.{state_of}
use Rattle.bt_engine_state.specs.declared.parts.Parts.{Parts}
use Rattle.bt_engine_messages.specs.NoteRooms.{slot_room, run_room}

-- how many notes there may be: those of all files of the root's tree, and none where no tree has the root
pub record IsNoteRoom {D H : Type 0} (parts : Parts D H) (key : HashKey) (room : ℕ) : Type 0 where
  pub known : (tree : ℕ) (k : Facts) → IsTreeOf (state_of parts) key.root tree k
      → room ≡ sum_by (slot_room tree (run_room key)) parts.slots.items
  pub unknown : IsUnknownRoot (state_of parts) key.root → room ≡ 0
