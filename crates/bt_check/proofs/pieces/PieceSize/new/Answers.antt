use Rattle.std.proofs.Common.{refl}
use Rattle.bt_check.proofs.pieces.PieceSize.new.Goals as goal

pub returns-then-not-is_piece_length-clause-variant : goal.returns-then-not-is_piece_length-clause-variant
returns-then-not-is_piece_length-clause-variant c = rw c.if-not-is_piece_length.true at c.is_piece_length.ensures

pub piece_layer-layer-requires : goal.piece_layer-layer-requires
piece_layer-layer-requires c = c.is_piece_length.ensures.0 c.if-not-is_piece_length.false

pub returns-clause-variant : goal.returns-clause-variant
returns-clause-variant c = (λ _. c.is_piece_length.ensures.0 c.if-not-is_piece_length.false, λ _. refl)
