use Rattle.std.proofs.Common.{ℕ, List, length, take, sym, ap, ◌∙◌}
use Rattle.std.specs.Int.{div_ceil}
use Rattle.bt_machine.specs.WireEvents.{bits_in}
use Rattle.bt_engine_state.proofs.Bits.{set_length}
use Rattle.bt_engine_state.proofs.piece_set.PieceSet.fill.Goals as goal

pub copy_from_slice-requires : goal.copy_from_slice-requires
copy_from_slice-requires c =
    let size = ap length (sym c.self.view_is) ∙ set_length c.self.inside.bytes.items c.self.inside.pieces c.self.invariant in
    c.self.inside.bytes.ok.0 ∙ c.self.invariant ∙ ap (λ n. div_ceil n 8) (sym size) ∙ sym c.requires

pub returns : goal.returns
returns c =
    let size = ap length (sym c.self.view_is) ∙ set_length c.self.inside.bytes.items c.self.inside.pieces c.self.invariant in
    ap (λ (bs : List ℕ). take c.self.inside.pieces (bits_in bs)) c.copy_from_slice.ensures.items
    ∙ ap (λ n. take n (bits_in c.args.bitfield.now)) (sym size)
