use Rattle.std.proofs.Common.{◌+◌, length, map, sym, ap, ◌∙◌, subst, arith}
use Rattle.std.specs.Prelude.{unwrap_or}
use Rattle.std.proofs.lemmas.List.{length-map}
use Rattle.bt_meta.specs.Files.{File, file_of}
use Rattle.bt_machine.proofs.Lists.{some_is}
use Rattle.bt_engine_state.proofs.Lists.{get_mapped, get_read}
use Rattle.bt_engine_state.specs.Roots.{number_of, IsFirstFrom, IsOfRoot}
use Rattle.bt_engine_start.proofs.NextFiles.{firsts_passed, firsts_put, next_before}
use Rattle.bt_engine_start.proofs.next_files.put_first.Goals as goal

pub returns-then-file-eq0-clause-firsts : goal.returns-then-file-eq0-clause-firsts
returns-then-file-eq0-clause-firsts c =
    let files = c.args.files.now in
    let own = get_mapped file_of files c.args.index (get_read files c.args.index c.index-files-index.result c.requires.inside c.index-files-index.is) in
    firsts_passed (map file_of files) c.args.index own c.args.firsts.now c.if-file-eq0.true c.requires.firsts

pub returns-then-file-eq0-clause-next : goal.returns-then-file-eq0-clause-next
returns-then-file-eq0-clause-next c = λ file listed some.
    let files = c.args.files.now in
    let own = get_mapped file_of files c.args.index (get_read files c.args.index c.index-files-index.result c.requires.inside c.index-files-index.is) in
    absurd (omega (arith, some, ap (λ (f : File). f.length) (some_is (sym listed ∙ own)), c.if-file-eq0.true))

pub returns-clause-firsts : goal.returns-clause-firsts
returns-clause-firsts c =
    let files = c.args.files.now in
    let own = get_mapped file_of files c.args.index (get_read files c.args.index c.index-files-index.result c.requires.inside c.index-files-index.is) in
    firsts_put (map file_of files) c.args.index own c.args.firsts.now c.insert.new.self (omega (arith, c.if-file-eq0.false)) c.in_ok-next.ensures.updates c.requires.firsts

pub returns-clause-next : goal.returns-clause-next
returns-clause-next c = λ file listed some.
    let files = c.args.files.now in
    let size = length-map files file_of in
    let own = get_mapped file_of files c.args.index (get_read files c.args.index c.index-files-index.result c.requires.inside c.index-files-index.is) in
    subst (λ n. IsFirstFrom (IsOfRoot (map file_of files) file.root) n (c.args.index + 1) c.unwrap_or.result) size
    (next_before (map file_of files) c.args.index listed c.args.firsts.now
    (c.unwrap_or.ensures ∙ ap (λ o. unwrap_or o (length files)) (c.in_ok-next.ensures.old ∙ ap (λ (f : File). number_of c.args.firsts.now f.root) (some_is (sym own ∙ listed)))
    ∙ ap (λ n. unwrap_or (number_of c.args.firsts.now file.root) n) (sym size)) c.requires.firsts)
