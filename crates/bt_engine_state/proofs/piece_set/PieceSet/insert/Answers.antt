use Rattle.std.proofs.Common.{◌≡◌, ◌<◌, ℕ, List, true, length, take, set, sym, ap, ◌∙◌, arith}
use Rattle.std.proofs.Math.Seq.{take-set-lt}
use Rattle.std.proofs.lemmas.List.{with_items_is}
use Rattle.bt_machine.specs.WireEvents.{bits_in}
use Rattle.bt_engine_state.proofs.Bits.{set_length}
use Rattle.bt_engine_state.proofs.piece_set.PieceSet.insert.Goals as goal

pub returns : goal.returns
returns c =
    let pieces = c.self.inside.pieces in
    let size : length c.args.self.now ≡ pieces =
    ap length (sym c.self.view_is) ∙ set_length c.self.inside.bytes.items pieces c.self.invariant in
    let inside : c.args.piece < pieces = omega (arith, c.requires, size) in
    let bytes = with_items_is c.self.inside.bytes c.set_bit.new.bytes (c.set_bit.auto.bytes ∙ c.deref_mut.ensures.len) in
    let written = rw c.deref_mut.ensures.value at c.set_bit.ensures.set in
    ap (λ (bs : List ℕ). take pieces (bits_in bs)) bytes ∙ ap (take pieces) written
    ∙ take-set-lt pieces (bits_in c.self.inside.bytes.items) c.args.piece true inside ∙ ap (λ s. set s c.args.piece true) c.self.view_is
