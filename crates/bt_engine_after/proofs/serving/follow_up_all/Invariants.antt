use Rattle.std.proofs.Common.{◌+◌, ◌-◌, ◌*◌, ◌≤◌, length}
use Rattle.std.specs.Vec.{vec_len, vec_capacity}
use Rattle.bt_engine_after.proofs.ServingFollowUps.{AreFollowedBelow}
use Rattle.bt_engine_after.proofs.serving.follow_up_all.Given as goal

abbrev pub invariant-loop-index : goal.invariant-loop-index
invariant-loop-index g l = record {
  followed : AreFollowedBelow g.H.NodeHash.digest l.fn.parts l.fn.send.items l.index l.parts l.send.items;
  room : vec_len l.send + 18 * (length l.fn.parts.peers.items - l.index) ≤ vec_capacity l.send;
}
