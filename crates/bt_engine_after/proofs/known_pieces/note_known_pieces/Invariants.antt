use Rattle.std.proofs.Common.{◌≡◌, ◌-◌, ◌^◌, ◌<◌, Some, slice_get}
use Rattle.bt_engine_state.specs.Ties.{IsTied}
use Rattle.bt_engine_state.specs.declared.peer.Peer.{Peer}
use Rattle.bt_engine_after.proofs.KnownPieces.{NoneLeft}
use Rattle.bt_engine_after.proofs.known_pieces.note_known_pieces.Given as goal

abbrev pub invariant-loop-piece : goal.invariant-loop-piece
invariant-loop-piece g l = record {
  others : l.parts ≡ record l.fn.parts { known = l.parts.known };
  tied : IsTied l.parts;
  fits : l.from < 2 ^ 32;
  passed : (peer : Peer) → slice_get l.fn.parts.peers.items l.index ≡ Some peer → NoneLeft peer.has l.parts.known l.from;
}

abbrev pub decreases-loop-piece : goal.decreases-loop-piece
decreases-loop-piece g l = 2 ^ 32 - l.from
