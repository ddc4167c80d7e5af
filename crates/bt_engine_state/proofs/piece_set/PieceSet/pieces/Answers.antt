use Rattle.std.proofs.Common.{length, sym, ap, ◌∙◌}
use Rattle.bt_engine_state.proofs.Bits.{set_length}
use Rattle.bt_engine_state.proofs.piece_set.PieceSet.pieces.Goals as goal

pub returns : goal.returns
returns c = sym (set_length c.self.inside.bytes.items c.self.inside.pieces c.self.invariant) ∙ ap length c.self.view_is
