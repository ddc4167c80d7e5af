use Rattle.std.proofs.Common.{◌≡◌, ◌+◌, ◌*◌, ◌-◌, ◌^◌, ◌<◌, length}
use Rattle.bt_machine.specs.State.{PeerState}
use Rattle.bt_engine_state.specs.Parts.{state_of}
use Rattle.bt_engine_after.proofs.HashNeeds.{NoneBefore}
use Rattle.bt_engine_after.proofs.hash_requests.least_need.Given as goal

abbrev pub invariant-loop-held : goal.invariant-loop-held
invariant-loop-held g l = record {
  fits : l.from.block < 2 ^ 32;
  none : (p : PeerState) → p.has ≡ l.has → NoneBefore g.H.NodeHash.digest (state_of l.parts) p l.from;
}

abbrev pub decreases-loop-held : goal.decreases-loop-held
decreases-loop-held g l = length l.parts.torrent.files * 2 ^ 32 - (l.from.file * 2 ^ 32 + l.from.block)
