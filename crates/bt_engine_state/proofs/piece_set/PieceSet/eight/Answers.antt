use Rattle.std.proofs.Common.{◌≡◌, ◌+◌, ◌-◌, ◌*◌, ◌/◌, ◌%◌, ◌<◌, length, get_or, ap, ◌∙◌, arith}
use Rattle.std.specs.Int.{bit_at}
use Rattle.std.proofs.lemmas.Bool.{eq-eqb}
use Rattle.std.proofs.lemmas.Grind.{div_ceil_times}
use Rattle.std.proofs.lemmas.Option.{get_or_from_slice_get}
use Rattle.bt_engine_state.proofs.Lists.{get_read}
use Rattle.bt_engine_state.proofs.Bits.{bit_of}
use Rattle.bt_engine_state.proofs.NextPieces.{bit_is}
use Rattle.bt_engine_state.proofs.piece_set.PieceSet.eight.Goals as goal

pub returns-then-place-self : goal.returns-then-place-self
returns-then-place-self c = λ j lt one.
    let bytes = c.self.inside.bytes.items in
    let place : (8 * c.args.place + j) / 8 ≡ c.args.place = omega arith in
    let turn : (8 * c.args.place + j) % 8 ≡ j = omega arith in
    let below : 8 * c.args.place + j < c.self.inside.pieces = omega (arith, c.if-place-self.true) in
    let lt : c.args.place < length bytes = omega (arith, c.self.invariant, div_ceil_times c.self.inside.pieces 8, c.if-place-self.true) in
    let byte : get_or bytes c.args.place 0 ≡ c.index.result.now =
    get_or_from_slice_get bytes c.args.place c.index.result.now 0 (get_read bytes c.args.place c.index.result.now lt c.index.ensures) in
    bit_is bytes c.self.inside.pieces c.self.invariant c.self.view_is (8 * c.args.place + j) below
    ∙ ap (λ n. bit_of (get_or bytes n 0) ((8 * c.args.place + j) % 8)) place
    ∙ ap (λ n. bit_of (get_or bytes c.args.place 0) n) turn
    ∙ eq-eqb _ 1 (ap (λ n. bit_at n (7 - j)) byte ∙ one)
