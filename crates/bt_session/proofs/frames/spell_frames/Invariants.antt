-- The frames so far are spelled, and the buffer kept its room.
use Rattle.std.proofs.Common.{◌≡◌, ◌≤◌, take, vec_capacity}
use Rattle.bt_session.specs.Frames.{spellings, frames_to}
use Rattle.bt_session.proofs.frames.spell_frames.Given as goal

abbrev pub invariant-loop-to : goal.invariant-loop-to
invariant-loop-to l = record {
  spelled : l.buffer.items ≡ spellings (frames_to l.key (take l.to-index l.send));
  capacity : vec_capacity l.fn.buffer ≤ vec_capacity l.buffer;
}
