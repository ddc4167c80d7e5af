use Rattle.bt_meta.proofs.Base.{◌<◌, ◌∙◌, arith, sym, refl, file_of, ap, length, length-map}
use Rattle.bt_meta.proofs.PlacePieces.{entry_at}
use Rattle.bt_meta.proofs.PieceBlocks.{shifted, some_file, past_end, piece_there, run_is}
use Rattle.bt_meta.proofs.torrent.Torrent.blocks_of.Goals as goal

pub returns-in_err-index-clause-variant : goal.returns-in_err-index-clause-variant
returns-in_err-index-clause-variant c =
    let some : 0 < length c.args.self.now.files = omega (arith, c.files-files.ensures.some, ap (λ files. length files) (sym c.files-files.ensures.said), length-map c.files-files.result.now file_of) in
    let lay = rw c.files-files.ensures.said at c.files-files.ensures.laid_out in
    absurd (some_file c.args.self.now lay c.args.piece some (c.in_err-index.ensures.none))

pub overflow_sub-first : goal.overflow_sub-first
overflow_sub-first c =
    let last = c.in_ok-index.ensures.some in
    let e = c.index-files-index.result in
    let found = entry_at _ _ c.files-files.ensures.said _ e c.index-files-index.is last.listed in
    rw found at (last.begun (file_of e))

pub returns-then-first-blocks-clause-variant : goal.returns-then-first-blocks-clause-variant
returns-then-first-blocks-clause-variant c =
    let last = c.in_ok-index.ensures.some in
    let e = c.index-files-index.result in
    let found = entry_at _ _ c.files-files.ensures.said _ e c.index-files-index.is last.listed in
    let is = shifted _ _ (sym c.piece_length.ensures.said ∙ c.piece_layer.ensures.value) c.piece_layer.ensures.limit in
    let past = past_end c.args.self.now (rw c.files-files.ensures.said at c.files-files.ensures.laid_out) c.args.piece _ (file_of e) last found _ is (omega arith) in
    (λ no. absurd (cc no), λ lt. absurd (omega (arith, lt, past)))

pub overflow_cast-result-2 : goal.overflow_cast-result-2
overflow_cast-result-2 c =
    let last = c.in_ok-index.ensures.some in
    let e = c.index-files-index.result in
    let found = entry_at _ _ c.files-files.ensures.said _ e c.index-files-index.is last.listed in
    let lawful = rw c.files-files.ensures.said at c.files-files.ensures.lawful in
    let short = rw found at ((lawful c.in_ok-index.index (file_of e) last.listed).short) in
    omega (arith, short)

pub returns-clause-variant : goal.returns-clause-variant
returns-clause-variant c =
    let last = c.in_ok-index.ensures.some in
    let e = c.index-files-index.result in
    let found = entry_at _ _ c.files-files.ensures.said _ e c.index-files-index.is last.listed in
    let is = shifted _ _ (sym c.piece_length.ensures.said ∙ c.piece_layer.ensures.value) c.piece_layer.ensures.limit in
    (λ _. piece_there c.args.self.now (rw c.files-files.ensures.said at c.files-files.ensures.laid_out) c.args.piece _ (file_of e) last found _ is _ refl (omega arith), λ _. refl)

pub returns-clause-value : goal.returns-clause-value
returns-clause-value c =
    let last = c.in_ok-index.ensures.some in
    let e = c.index-files-index.result in
    let found = entry_at _ _ c.files-files.ensures.said _ e c.index-files-index.is last.listed in
    let is = shifted _ _ (sym c.piece_length.ensures.said ∙ c.piece_layer.ensures.value) c.piece_layer.ensures.limit in
    run_is c.args.self.now (rw c.files-files.ensures.said at c.files-files.ensures.laid_out) c.args.piece _ (file_of e) last found _ is _ refl (omega arith) _ refl refl (omega arith)
