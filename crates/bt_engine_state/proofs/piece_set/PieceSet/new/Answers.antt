use Rattle.std.proofs.Common.{ℕ, List, take, ap, ◌∙◌, arith}
use Rattle.std.proofs.lemmas.Grind.{div_ceil_times}
use Rattle.bt_machine.specs.WireEvents.{bits_in}
use Rattle.bt_engine_state.proofs.Bits.{no_bits}
use Rattle.bt_engine_state.proofs.piece_set.PieceSet.new.Goals as goal

pub returns : goal.returns
returns c =
    ap (λ (bs : List ℕ). take c.args.pieces (bits_in bs)) (c.in_ok-bytes.ensures.items_if_clones_equal (λ y e. e))
    ∙ no_bits c.div_ceil.result c.args.pieces (omega (arith, c.div_ceil.ensures, div_ceil_times c.args.pieces 8))
