use Rattle.std.proofs.Common.{◌<◌, refl, sym, subst, arith}
use Rattle.bt_book.specs.BitSet.{IsNext, HasNoneFrom}
use Rattle.bt_engine_state.specs.Parts.{state_of}
use Rattle.bt_engine_state.specs.PieceSets.{without}
use Rattle.bt_engine_state.specs.declared.peer.Peer.{Peer}
use Rattle.bt_machine.specs.State.{EngineState}
use Rattle.bt_meta.specs.Torrent.{total_pieces}
use Rattle.bt_engine_after.specs.KnownPiecesSteps.{IsKnown}
use Rattle.bt_engine_after.proofs.KnownPieces.{state_same, shaped_same, others_more, none_left_yet, none_left_more, noted_at_end, noted_to_unknown, peer_same}
use Rattle.bt_engine_after.proofs.known_pieces.note_known_pieces.Goals as goal

pub loop-piece-init : goal.loop-piece-init
loop-piece-init g c = record {
  others = refl;
  tied = c.requires.tied;
  fits = omega arith;
  passed = λ peer at. none_left_yet peer.has c.args.parts.now.known;
}

pub known_to-end-requires : goal.known_to-end-requires
known_to-end-requires g c = record {
  tied = c.loop-piece.invariant.tied;
  shaped = shaped_same c.args.parts.now c.loop-piece.parts c.loop-piece.invariant.others c.requires.shaped;
}

pub loop-piece-smaller : goal.loop-piece-smaller
loop-piece-smaller g c = omega (arith, c.in-Some.ensures.some.after, c.if-end-piece.false, c.known_to-end.type_inv, c.loop-piece.invariant.fits)

pub loop-piece-preserved : goal.loop-piece-preserved
loop-piece-preserved g c = record {
  others = others_more c.args.parts.now c.loop-piece.parts c.loop-piece.invariant.others c.note_pieces.new.parts c.note_pieces.ensures.others;
  tied = c.note_pieces.ensures.tied;
  fits = omega (arith, c.known_to-end.type_inv);
  passed = λ peer at.
      let own = peer_same c.args.parts.now c.loop-piece.parts c.loop-piece.invariant.others c.args.index c.index.result.now peer c.requires.there c.index.ensures at in
      let next = subst (λ (p : Peer). IsNext (without p.has c.loop-piece.parts.known) c.loop-piece.from c.in-Some.piece) own c.in-Some.ensures.some in
      none_left_more peer.has c.loop-piece.parts.known c.note_pieces.new.parts.known c.loop-piece.from c.in-Some.piece c.known_to-end.result
      (c.loop-piece.invariant.passed peer at) next c.note_pieces.ensures.noted;
}

pub returns-then-end-piece-clause-noted : goal.returns-then-end-piece-clause-noted
returns-then-end-piece-clause-noted g c = λ peer at.
    let same = state_same c.args.parts.now c.loop-piece.parts c.loop-piece.invariant.others in
    let own = peer_same c.args.parts.now c.loop-piece.parts c.loop-piece.invariant.others c.args.index c.index.result.now peer c.requires.there c.index.ensures at in
    let next = subst (λ (p : Peer). IsNext (without p.has c.loop-piece.parts.known) c.loop-piece.from c.in-Some.piece) own c.in-Some.ensures.some in
    noted_to_unknown (state_of c.args.parts.now) peer.has c.loop-piece.parts.known c.loop-piece.from c.in-Some.piece (c.loop-piece.invariant.passed peer at) next
    (λ inside known. c.known_to-end.ensures.unknown (subst (λ (s : EngineState). c.in-Some.piece < total_pieces s.torrent) (sym same) inside) c.if-end-piece.true
    (subst (λ (s : EngineState). IsKnown s c.in-Some.piece) (sym same) known))

pub returns-clause-noted : goal.returns-clause-noted
returns-clause-noted g c = λ peer at.
    let own = peer_same c.args.parts.now c.loop-piece.parts c.loop-piece.invariant.others c.args.index c.index.result.now peer c.requires.there c.index.ensures at in
    noted_at_end (state_of c.args.parts.now) peer.has c.loop-piece.parts.known c.loop-piece.from (c.loop-piece.invariant.passed peer at)
    (subst (λ (p : Peer). HasNoneFrom (without p.has c.loop-piece.parts.known) c.loop-piece.from) own c.in_default.ensures.none)
