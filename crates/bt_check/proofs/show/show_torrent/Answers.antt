use Rattle.std.proofs.Common.{◌∷◌, ◌++◌, [], take, take_all, map, ap, sym, ◌∙◌, arith}
use Rattle.std.proofs.lemmas.List.{take_more}
use Rattle.bt_meta.specs.Files.{file_of}
use Rattle.bt_check.proofs.ShowText.{on_ok_always, showing_begun, showing_more, showing_done}
use Rattle.bt_check.proofs.show.show_torrent.Goals as goal

pub loop-file-init : goal.loop-file-init
loop-file-init g c = showing_begun _ _ _ _ (c.as_str.ensures.value ∙ c.in_ok-head.ensures) c.in_ok-write_text.ensures.text

pub loop-file-preserved : goal.loop-file-preserved
loop-file-preserved g c =
    let more = take_more c.files-files.result.now c.loop-file.file-index c.file-item.result c.loop-file-test.true in
    showing_more _ _ _ _ _ _ c.file-item.result _ c.loop-file.invariant (c.as_str-in-loop-file.ensures.value ∙ c.in_ok-file_line.ensures)
    (more ∙ ap (λ f. take c.loop-file.file-index c.files-files.result.now ++ f ∷ []) (sym c.file-item.is)) c.in_ok-write_text-2.ensures.text

pub returns-clause-text : goal.returns-clause-text
returns-clause-text g c =
    let all = take_all c.loop-file.file-index c.files-files.result.now (omega (arith, c.loop-file-test.false)) in
    on_ok_always _ (showing_done _ _ _ _ _ (ap (map file_of) all ∙ c.files-files.ensures.said) c.loop-file.invariant c.flush.ensures.bytes)
