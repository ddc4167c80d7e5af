use Rattle.std.proofs.Common.{◌∙◌, ap}
use Rattle.std.specs.Prelude.{min, unwrap_or}
use Rattle.bt_engine_state.specs.Parts.{state_of}
use Rattle.bt_engine_after.proofs.KnownPieces.{known_by, unknown_by_end}
use Rattle.bt_engine_after.proofs.known_pieces.known_to.Goals as goal

pub returns-clause-known : goal.returns-clause-known
returns-clause-known g c =
    let torrent = c.args.parts.now.torrent in
    known_by g.H.NodeHash.digest (state_of c.args.parts.now) c.requires.shaped c.keeps_laws.ensures.piece c.keeps_laws.ensures.laid_out c.args.piece
    c.in-Some.run' c.in-Some.ensures.value c.next_unknown.result c.next_unknown.ensures.unknown
    c.first_piece.result c.first_piece.ensures.some c.first_piece.ensures.none c.min.result
    (c.min.ensures ∙ ap (λ n. min n c.pieces-pieces.result) c.unwrap_or.ensures ∙ ap (λ n. min (unwrap_or c.first_piece.result n) n) c.pieces-pieces.ensures.counted)

pub returns-clause-unknown : goal.returns-clause-unknown
returns-clause-unknown g c =
    let torrent = c.args.parts.now.torrent in
    unknown_by_end g.H.NodeHash.digest (state_of c.args.parts.now) c.requires.shaped c.keeps_laws.ensures.piece c.keeps_laws.ensures.laid_out c.args.piece
    c.in-Some.run' c.in-Some.ensures.value c.next_unknown.result c.next_unknown.ensures.unknown
    c.first_piece.result c.first_piece.ensures.some c.min.result
    (c.min.ensures ∙ ap (λ n. min n c.pieces-pieces.result) c.unwrap_or.ensures ∙ ap (λ n. min (unwrap_or c.first_piece.result n) n) c.pieces-pieces.ensures.counted)
