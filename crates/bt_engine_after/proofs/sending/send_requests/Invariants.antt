use Rattle.std.proofs.Common.{◌+◌, ◌≤◌, take}
use Rattle.std.specs.Prelude.{vec_len, vec_capacity}
use Rattle.bt_engine_after.specs.SendingSteps.{AreRequestsSent}
use Rattle.bt_engine_after.proofs.sending.send_requests.Given as goal

abbrev pub invariant-loop-block : goal.invariant-loop-block
invariant-loop-block l = record {
  sent : AreRequestsSent l.torrent l.key (take l.block-index l.blocks) l.fn.send.items l.send.items;
  few : vec_len l.send ≤ vec_len l.fn.send + l.block-index;
  capacity : vec_capacity l.fn.send ≤ vec_capacity l.send;
}
