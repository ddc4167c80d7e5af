use Rattle.std.proofs.Common.{ℕ, List, length, arith, ap, ◌∙◌}
use Rattle.std.proofs.lemmas.List.{with_items_is}
use Rattle.bt_engine_state.proofs.Wholes.{none_set, one_set, one_skipped, bits_done}
use Rattle.bt_engine_state.proofs.greeting.bitfield.Goals as goal
use Rattle.bt_engine_state.proofs.greeting.bitfield.Goals.{then-count-eq0, else-count-eq0}

pub loop-piece-init : goal.loop-piece-init
loop-piece-init c =
    (none_set c.args.unmarked.now c.in_ok-bytes.bytes.items c.div_ceil.result c.div_ceil.ensures (c.in_ok-bytes.ensures.items_if_clones_equal (λ y e. e)), omega arith)

pub loop-piece-preserved : goal.loop-piece-preserved
loop-piece-preserved c = elim c.if-count-eq0.branch [
  | then-count-eq0 w ↦
      let items = with_items_is c.loop-piece.bytes w.set_bit.new.bytes (w.set_bit.auto.bytes ∙ w.deref_mut.ensures.len) in
      let written = rw w.deref_mut.ensures.value at w.set_bit.ensures.set in
      let fits = rw w.deref_mut.ensures.value at w.set_bit.ensures.fits in
      let size = w.set_bit.auto.bytes ∙ ap (λ (bs : List ℕ). length bs) w.deref_mut.ensures.value in
      rw (w.bytes-is, items) (
        one_set c.args.unmarked.now c.loop-piece.bytes.items w.set_bit.new.bytes c.loop-piece.piece c.loop-piece-test.true
            w.if-count-eq0.true written size (fits c.loop-piece.invariant.0.fits) c.loop-piece.invariant.0,
        omega (arith, c.loop-piece-test.true),
      )
  | else-count-eq0 w ↦
      rw w.bytes-is (one_skipped c.args.unmarked.now c.loop-piece.bytes.items c.loop-piece.piece c.loop-piece-test.true w.if-count-eq0.false c.loop-piece.invariant.0, omega (arith, c.loop-piece-test.true))
]

pub returns-clause-fits : goal.returns-clause-fits
returns-clause-fits c = c.loop-piece.invariant.0.fits

pub returns-clause-bits : goal.returns-clause-bits
returns-clause-bits c = bits_done c.args.unmarked.now c.loop-piece.bytes.items c.loop-piece.piece (omega (arith, c.loop-piece.invariant.1, c.loop-piece-test.false)) c.loop-piece.invariant.0
