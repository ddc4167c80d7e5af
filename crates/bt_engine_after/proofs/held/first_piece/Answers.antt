use Rattle.std.proofs.Common.{arith, ap, sym, ◌∙◌, ◌≡◌, ◌<◌, ◌+◌, length, subst}
use Rattle.std.proofs.lemmas.List.{length-map}
use Rattle.bt_meta.specs.Files.{file_of}
use Rattle.bt_meta.proofs.PlacePieces.{entry_at}
use Rattle.bt_engine_after.specs.HeldSteps.{IsFirstPiece}
use Rattle.bt_engine_after.proofs.PieceOrder.{lies_first, range_lies, next_first, none_first}
use Rattle.bt_engine_after.proofs.held.first_piece.Goals as goal

pub returns-in-Some-clause-some : goal.returns-in-Some-clause-some
returns-in-Some-clause-some c =
    lies_first c.args.torrent.now c.keeps_laws.ensures.piece c.keeps_laws.ensures.laid_out c.args.from c.in-Some.range.piece
    (range_lies c.args.torrent.now c.args.from c.in-Some.range c.in-Some.ensures.value)

pub returns-in_err-next-clause-none : goal.returns-in_err-next-clause-none
returns-in_err-next-clause-none c =
    let past = c.in_err-next.ensures.lookup.3 in
    let many : length c.args.torrent.now.files ≡ length c.files-files.result.now =
    ap (λ files. length files) (sym c.files-files.ensures.said) ∙ length-map c.files-files.result.now file_of in
    rw c.from_residual.ensures (none_first c.args.torrent.now c.keeps_laws.ensures.piece c.keeps_laws.ensures.laid_out c.args.from (λ h. absurd (let e = c.in_default.ensures.variant.1 h in cc)) (omega (arith, many, past)))

pub returns-clause-some : goal.returns-clause-some
returns-clause-some c =
    let at = c.in_ok-next.ensures.lookup in
    let e = c.in_ok-next.next.now in
    let many : length c.args.torrent.now.files ≡ length c.files-files.result.now =
    ap (λ files. length files) (sym c.files-files.ensures.said) ∙ length-map c.files-files.result.now file_of in
    let below : c.args.from.file + 1 < length c.args.torrent.now.files = omega (arith, many, at.3.0) in
    let found = entry_at c.args.torrent.now.files c.files-files.result.now c.files-files.ensures.said (c.args.from.file + 1) e at.1 below (file_of e) in
    subst (λ n. IsFirstPiece c.args.torrent.now c.args.from n) (ap (λ f. f.first_piece) found)
    (next_first c.args.torrent.now c.keeps_laws.ensures.piece c.keeps_laws.ensures.laid_out c.args.from (λ h. absurd (let some = c.in_default.ensures.variant.1 h in cc)) (file_of e) below)
