use Rattle.std.proofs.Common.{◌<◌, ap, arith, length, refl}
use Rattle.bt_meta.specs.Torrent.{total_pieces}
use Rattle.bt_engine_state.specs.declared.parts.Parts.{Parts}
use Rattle.bt_engine_after.proofs.KnownPieces.{known_same, none_noted, noted_more, others_more, tied_noted}
use Rattle.bt_engine_after.proofs.known_pieces.note_pieces.Goals as goal

pub loop-piece-init : goal.loop-piece-init
loop-piece-init g c = record { others = refl; tied = c.requires.tied; noted = none_noted c.args.parts.now.known c.args.from }

pub insert-requires : goal.insert-requires
insert-requires g c =
    let same = ap (λ (p : Parts g.row.D.Denot g.row.H.Denot). total_pieces p.torrent) c.loop-piece.invariant.others in
    omega (arith, c.loop-piece.invariant.tied.known.size, same, c.requires.inside, c.loop-piece-test.true)

pub loop-piece-preserved : goal.loop-piece-preserved
loop-piece-preserved g c =
    let now = c.loop-piece.parts in
    let same = ap (λ (p : Parts g.row.D.Denot g.row.H.Denot). total_pieces p.torrent) c.loop-piece.invariant.others in
    let inside : c.loop-piece.piece < length now.known = omega (arith, c.loop-piece.invariant.tied.known.size, same, c.requires.inside, c.loop-piece-test.true) in
    let known = known_same c.args.parts.now now c.loop-piece.invariant.others c.args.from c.args.to c.requires.known in
    record {
      others = others_more c.args.parts.now now c.loop-piece.invariant.others (record now { known = c.insert.new.self }) refl;
      tied = tied_noted now c.loop-piece.piece c.insert.new.self c.loop-piece.invariant.tied
          (known c.loop-piece.piece (omega (arith, c.loop-piece.auto.piece)) (omega (arith, c.loop-piece-test.true))) c.insert.ensures;
      noted = noted_more c.insert.new.self c.loop-piece.invariant.noted inside c.insert.ensures;
    }

pub returns-clause-noted : goal.returns-clause-noted
returns-clause-noted g c = record {
  kept = c.loop-piece.invariant.noted.kept;
  noted = λ q le lt. c.loop-piece.invariant.noted.noted q le (omega (arith, lt, c.loop-piece-test.false));
}
