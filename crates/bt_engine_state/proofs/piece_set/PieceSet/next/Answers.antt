use Rattle.std.proofs.Common.{◌≡◌, ℕ, ◌/◌, List, length, get_or, sym, ap, ◌∙◌, arith}
use Rattle.bt_machine.specs.WireEvents.{bits_in}
use Rattle.bt_engine_state.proofs.Bits.{set_length}
use Rattle.bt_engine_state.proofs.NextPieces.{past_byte, past_bit}
use Rattle.bt_engine_state.proofs.piece_set.PieceSet.next.Goals as goal

pub loop-piece-preserved-then-index-eq0 : goal.loop-piece-preserved-then-index-eq0
loop-piece-preserved-then-index-eq0 c =
    let bytes = c.self.inside.bytes.items in
    let empty : get_or bytes (c.loop-piece.piece / 8) 0 ≡ 0 = grind (arith, c.index.ensures, c.if-index-eq0.true) in
    record {
      from = omega (arith, c.loop-piece.invariant.from);
      none = past_byte bytes c.self.inside.pieces c.self.invariant c.self.view_is c.args.from c.loop-piece.piece c.loop-piece.invariant.none empty;
    }

pub loop-piece-preserved : goal.loop-piece-preserved
loop-piece-preserved c =
    let bytes = c.self.inside.bytes.items in
    let size : length c.args.self.now ≡ c.self.inside.pieces =
    ap length (sym c.self.view_is) ∙ set_length bytes c.self.inside.pieces c.self.invariant in
    record {
      from = omega (arith, c.loop-piece.invariant.from);
      none = past_bit bytes c.self.inside.pieces c.self.invariant c.self.view_is c.args.from c.loop-piece.piece c.loop-piece.invariant.none
          (omega (arith, size, c.pieces-pieces.ensures, c.loop-piece-test.true))
          (ap (λ (bs : List ℕ). get_or (bits_in bs) c.loop-piece.piece _) (sym c.deref.ensures.value) ∙ sym c.bit.ensures ∙ c.if-bit.false);
    }
