use Rattle.std.proofs.Common.{◌≡◌}
use Rattle.bt_engine_state.specs.Ties.{IsTied}
use Rattle.bt_engine_after.specs.KnownPiecesSteps.{AreNoted}
use Rattle.bt_engine_after.proofs.known_pieces.note_pieces.Given as goal

abbrev pub invariant-loop-piece : goal.invariant-loop-piece
invariant-loop-piece g l = record {
  others : l.parts ≡ record l.fn.parts { known = l.parts.known };
  tied : IsTied l.parts;
  noted : AreNoted l.fn.parts.known l.parts.known l.fn.from l.piece;
}
