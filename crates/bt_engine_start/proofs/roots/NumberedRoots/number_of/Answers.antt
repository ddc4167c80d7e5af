use Rattle.std.proofs.Common.{[], ◌∷◌, map, Some, sym, ap, ◌∙◌, arith}
use Rattle.std.specs.Prelude.{is_some}
use Rattle.std.specs.Option.{option_copied}
use Rattle.bt_meta.specs.Files.{File, file_of}
use Rattle.bt_machine.proofs.Lists.{some_is}
use Rattle.bt_engine_state.proofs.Lists.{get_mapped, get_read}
use Rattle.bt_engine_state.specs.Ties.{root_and_length_of}
use Rattle.bt_engine_state.specs.Roots.{number_of}
use Rattle.bt_engine_start.proofs.RootTrees.{known_tree, listed_root, root_passed, root_added}
use Rattle.bt_engine_start.proofs.Pushes.{get_kept, get_last}
use Rattle.bt_engine_start.proofs.roots.NumberedRoots.number_of.Goals as goal

pub returns-then-file-eq0-clause-by_root : goal.returns-then-file-eq0-clause-by_root
returns-then-file-eq0-clause-by_root c =
    let files = c.args.files.now in
    let own = get_mapped file_of files c.args.index (get_read files c.args.index c.index-files-index.result c.requires.inside c.index-files-index.is) in
    root_passed c.requires.by_root own (λ some. absurd (omega (arith, some, c.if-file-eq0.true)))

pub returns-then-file-eq0-clause-number : goal.returns-then-file-eq0-clause-number
returns-then-file-eq0-clause-number c = λ file listed some.
    let files = c.args.files.now in
    let own = get_mapped file_of files c.args.index (get_read files c.args.index c.index-files-index.result c.requires.inside c.index-files-index.is) in
    absurd (omega (arith, some, ap (λ (f : File). f.length) (some_is (sym listed ∙ own)), c.if-file-eq0.true))

pub returns-in-Some-clause-by_root : goal.returns-in-Some-clause-by_root
returns-in-Some-clause-by_root c =
    let files = c.args.files.now in
    let own = get_mapped file_of files c.args.index (get_read files c.args.index c.index-files-index.result c.requires.inside c.index-files-index.is) in
    root_passed c.requires.by_root own (λ some. ap (λ o. is_some o) (sym c.in-Some.ensures.value))

pub returns-in-Some-clause-number : goal.returns-in-Some-clause-number
returns-in-Some-clause-number c = λ file listed some.
    let files = c.args.files.now in
    let own = get_mapped file_of files c.args.index (get_read files c.args.index c.index-files-index.result c.requires.inside c.index-files-index.is) in
    known_tree c.requires.by_root c.requires.one_length c.args.index listed
    (ap (λ (f : File). number_of c.args.self.now.numbers f.root) (some_is (sym listed ∙ own)) ∙ sym c.in-Some.ensures.value) some

pub returns-clause-by_root : goal.returns-clause-by_root
returns-clause-by_root c =
    let files = c.args.files.now in
    let own = get_mapped file_of files c.args.index (get_read files c.args.index c.index-files-index.result c.requires.inside c.index-files-index.is) in
    root_added c.args.self.now.numbers c.insert.new.self c.push.new.self.items c.requires.by_root own (omega (arith, c.if-file-eq0.false))
    (c.len-number.ensures ∙ c.args.self.now.first_files.ok.0) (sym c.get.ensures.value ∙ ap option_copied c.in_default.is) c.in_ok-insert.ensures.updates
    c.in_ok-push.ensures.items

pub returns-clause-grown : goal.returns-clause-grown
returns-clause-grown c = λ t k at. rw c.in_ok-push.ensures.items (get_kept c.args.self.now.first_files.items (c.args.index ∷ []) t at)

pub returns-clause-number : goal.returns-clause-number
returns-clause-number c = λ file listed some.
    let files = c.args.files.now in
    get_mapped (root_and_length_of (map file_of files)) c.push.new.self.items c.len-number.result
    (rw (c.in_ok-push.ensures.items, c.len-number.ensures, c.args.self.now.first_files.ok.0) (get_last c.args.self.now.first_files.items c.args.index))
    ∙ ap (λ p. Some p) (listed_root (map file_of files) c.args.index listed)
