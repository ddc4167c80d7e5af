use Rattle.std.proofs.Common.{◌≡◌, ℕ, ◌/◌, ◌<◌, List, false, length, get_or, sym, ap, ◌∙◌, arith}
use Rattle.std.specs.Int.Bits.{bit_and}
use Rattle.std.proofs.lemmas.Grind.{div_ceil_times}
use Rattle.std.proofs.lemmas.Option.{get_or_from_slice_get}
use Rattle.bt_machine.specs.WireEvents.{bits_in}
use Rattle.bt_engine_state.proofs.Bits.{set_length}
use Rattle.bt_engine_state.proofs.Lists.{get_read}
use Rattle.bt_engine_state.proofs.OutsidePieces.{past_eight, past_one, own_bit, is_next, none_left, not_in, in_other}
use Rattle.bt_engine_state.proofs.piece_set.PieceSet.next_outside.Goals as goal
use Rattle.bt_engine_state.proofs.piece_set.PieceSet.next_outside.Goals.{else-bit-via-then-bit+else-not-contains, else-bit-via-else-bit}

pub loop-piece-preserved-then-eight : goal.loop-piece-preserved-then-eight
loop-piece-preserved-then-eight c =
    let bytes = c.self.inside.bytes.items in
    let size : length c.args.self.now ≡ c.self.inside.pieces =
    ap length (sym c.self.view_is) ∙ set_length bytes c.self.inside.pieces c.self.invariant in
    let lt : c.loop-piece.piece / 8 < length bytes =
    omega (arith, size, c.self.invariant, div_ceil_times c.self.inside.pieces 8, c.pieces-pieces.ensures, c.loop-piece-test.true) in
    let byte : get_or bytes (c.loop-piece.piece / 8) 0 ≡ c.index-eight.result.now =
    get_or_from_slice_get bytes (c.loop-piece.piece / 8) c.index-eight.result.now 0 (get_read bytes (c.loop-piece.piece / 8) c.index-eight.result.now lt c.index-eight.ensures) in
    record {
      from = omega (arith, c.loop-piece.invariant.from);
      none = past_eight bytes c.self.inside.pieces c.self.invariant c.self.view_is c.args.other.now c.args.from c.loop-piece.piece c.loop-piece.invariant.none
          c.eight.result c.eight.ensures (ap (λ n. bit_and n c.eight.result) byte ∙ c.if-eight.true ∙ sym byte);
    }

pub returns-then-not-contains-clause-some : goal.returns-then-not-contains-clause-some
returns-then-not-contains-clause-some c =
    let bytes = c.self.inside.bytes.items in
    let size : length c.args.self.now ≡ c.self.inside.pieces =
    ap length (sym c.self.view_is) ∙ set_length bytes c.self.inside.pieces c.self.invariant in
    let inside : c.loop-piece.piece < c.self.inside.pieces = omega (arith, size, c.pieces-pieces.ensures, c.loop-piece-test.true) in
    is_next bytes c.self.inside.pieces c.self.invariant c.self.view_is c.args.other.now c.args.from c.loop-piece.piece c.loop-piece.invariant.none
    c.loop-piece.invariant.from inside
    (own_bit bytes c.self.inside.pieces c.self.invariant c.self.view_is c.args.other.now c.args.from c.loop-piece.piece c.loop-piece.invariant.none inside
    ∙ ap (λ (bs : List ℕ). get_or (bits_in bs) c.loop-piece.piece false) (sym c.deref.ensures.value) ∙ sym c.bit.ensures ∙ c.if-bit.true)
    (sym c.contains.ensures ∙ c.if-not-contains.true)

pub loop-piece-preserved : goal.loop-piece-preserved
loop-piece-preserved c =
    let bytes = c.self.inside.bytes.items in
    let size : length c.args.self.now ≡ c.self.inside.pieces =
    ap length (sym c.self.view_is) ∙ set_length bytes c.self.inside.pieces c.self.invariant in
    let inside : c.loop-piece.piece < c.self.inside.pieces = omega (arith, size, c.pieces-pieces.ensures, c.loop-piece-test.true) in
    let own = own_bit bytes c.self.inside.pieces c.self.invariant c.self.view_is c.args.other.now c.args.from c.loop-piece.piece c.loop-piece.invariant.none inside
    ∙ ap (λ (bs : List ℕ). get_or (bits_in bs) c.loop-piece.piece false) (sym c.deref.ensures.value) ∙ sym c.bit.ensures in
    record {
      from = omega (arith, c.loop-piece.invariant.from);
      none = past_one bytes c.self.inside.pieces c.self.invariant c.self.view_is c.args.other.now c.args.from c.loop-piece.piece c.loop-piece.invariant.none
          (elim c.else-bit.branch [
            | else-bit-via-then-bit+else-not-contains w ↦ in_other _ _ (sym w.contains.ensures ∙ w.if-not-contains.false)
            | else-bit-via-else-bit w ↦ not_in _ _ (own ∙ w.if-bit.false)
          ]);
    }

pub returns-clause-none : goal.returns-clause-none
returns-clause-none c =
    let bytes = c.self.inside.bytes.items in
    let size : length c.args.self.now ≡ c.self.inside.pieces =
    ap length (sym c.self.view_is) ∙ set_length bytes c.self.inside.pieces c.self.invariant in
    none_left bytes c.self.inside.pieces c.self.invariant c.self.view_is c.args.other.now c.args.from c.loop-piece.piece c.loop-piece.invariant.none
    (omega (arith, size, c.pieces-pieces.ensures, c.loop-piece-test.false))
