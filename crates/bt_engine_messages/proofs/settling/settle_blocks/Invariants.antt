use Rattle.std.proofs.Common.{◌≡◌, ◌+◌, ◌≤◌, ◌++◌, map, take}
use Rattle.std.specs.Vec.{vec_len, vec_capacity}
use Rattle.bt_engine_messages.specs.SettlingSteps.{note_at}
use Rattle.bt_engine_messages.proofs.settling.settle_blocks.Given as goal

abbrev pub invariant-loop-block : goal.invariant-loop-block
invariant-loop-block g l = record {
  noted : l.notes.items ≡ l.fn.notes.items ++ map (note_at l.file l.store.states) (take l.block-index l.block-items);
  few : vec_len l.notes ≤ vec_len l.fn.notes + l.block-index;
  room : vec_capacity l.fn.notes ≤ vec_capacity l.notes;
}
