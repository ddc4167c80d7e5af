use Rattle.std.proofs.Common.{◌≡◌, [], map, rules, sym, subst, ◌∙◌}
use Rattle.std.specs.List.{All}
use Rattle.bt_meta.specs.Files.{file_of}
use Rattle.bt_check.specs.EntryCheck.{IsCheckable}
use Rattle.bt_check.specs.TreeSteps.{KeepsTrees}
use Rattle.bt_check.proofs.CheckFault.{all_checkable}
use Rattle.bt_check.proofs.ReportLines.{report_on}
use Rattle.bt_check.proofs.check.check_torrent.Goals as goal

pub check_each-requires-clause-checkable : goal.check_each-requires-clause-checkable
check_each-requires-clause-checkable g c =
    let size = c.in-Some.size in
    let bytes : size.bytes ≡ c.args.torrent.now.piece_length = search rules in
    subst (All (IsCheckable size.layer)) (sym c.in_ok-files.ensures.each)
    (all_checkable size.bytes size.layer (map file_of c.files-entries.result.now) size.of_layer (rw bytes c.files-entries.ensures.lawful) c.layers_are_of_trees.ensures)

pub check_each-requires-clause-trees : goal.check_each-requires-clause-trees
check_each-requires-clause-trees g c =
    let layer = c.in-Some.size.layer in
    subst (λ files. KeepsTrees layer [] files c.in_ok-trees.trees) (sym c.in_ok-files.ensures.each) (c.in_ok-trees.ensures layer)

pub returns-clause-report : goal.returns-clause-report
returns-clause-report g c =
    let size = c.in-Some.size in
    let bytes : size.bytes ≡ c.args.torrent.now.piece_length = search rules in
    report_on c.args.dir.now c.args.torrent.now size.layer size.bytes _ c.in_ok-summary.summary _ _ _ _ (sym bytes) size.of_layer
    (c.in_ok-files.ensures.each ∙ c.files-entries.ensures.said) c.in_ok-files.ensures.paths c.in_ok-summary.ensures.report c.last_words.ensures c.in_ok-print.ensures.text
