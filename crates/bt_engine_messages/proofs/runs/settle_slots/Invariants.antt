use Rattle.std.proofs.Common.{◌+◌, ◌-◌, ◌≤◌, length, drop}
use Rattle.std.specs.Prelude.{sum_by}
use Rattle.std.specs.Vec.{vec_len, vec_capacity}
use Rattle.bt_engine_state.proofs.Chains.{StandsAt}
use Rattle.bt_engine_messages.specs.NoteRooms.{slot_room}
use Rattle.bt_engine_messages.proofs.RunSettlings.{AreSettledTo}
use Rattle.bt_engine_messages.proofs.runs.settle_slots.Given as goal

abbrev pub invariant-loop-file : goal.invariant-loop-file
invariant-loop-file g l = record {
  stands : StandsAt l.fn.slots l.index l.file;
  settled : AreSettledTo g.D.Disk.conduct g.H.NodeHash.digest l.tree l.index l.from l.count
      l.fn.slots l.fn.notes.items l.file l.notes.items l.slots;
  few : vec_len l.notes + sum_by (slot_room l.index l.count) (drop l.file l.fn.slots) ≤ vec_len l.fn.notes + sum_by (slot_room l.index l.count) l.fn.slots;
  room : vec_len l.notes + sum_by (slot_room l.index l.count) (drop l.file l.fn.slots) ≤ vec_capacity l.notes;
}

abbrev pub decreases-loop-file : goal.decreases-loop-file
decreases-loop-file g l = length l.fn.slots - l.file
