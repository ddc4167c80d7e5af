use Rattle.std.proofs.Common.{◌-◌, ◌≤◌, length, take}
use Rattle.std.specs.Prelude.{All}
use Rattle.bt_connection.specs.Messages.{AreMessages, IsLongAt}
use Rattle.bt_connection.proofs.messages.whole_messages.Given as goal

abbrev pub invariant-messages : goal.invariant-messages
invariant-messages g l = record {
  within : l.at ≤ length l.bytes;
  messages : AreMessages (take l.at l.bytes);
  long : All (IsLongAt l.bytes l.at) l.blocks;
}

abbrev pub decreases-messages : goal.decreases-messages
decreases-messages g l = length l.bytes - l.at
