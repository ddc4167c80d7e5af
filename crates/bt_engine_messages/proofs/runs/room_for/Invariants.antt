use Rattle.std.proofs.Common.{◌≡◌, ◌*◌, ◌-◌, ◌≤◌, length, take}
use Rattle.std.specs.Prelude.{sum_by}
use Rattle.bt_engine_state.proofs.Chains.{StandsAt}
use Rattle.bt_engine_messages.specs.NoteRooms.{slot_room}
use Rattle.bt_engine_messages.proofs.runs.room_for.Given as goal

abbrev pub invariant-loop-file : goal.invariant-loop-file
invariant-loop-file g l = record {
  stands : StandsAt l.slots l.index l.file;
  summed : l.room ≡ sum_by (slot_room l.index l.count) (take l.file l.slots);
  few : l.room ≤ 513 * l.file;
}

abbrev pub decreases-loop-file : goal.decreases-loop-file
decreases-loop-file g l = length l.slots - l.file
