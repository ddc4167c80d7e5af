use Rattle.std.proofs.Common.{◌≡◌, [], map, rules, sym, subst, ◌∙◌, ap, length}
use Rattle.std.specs.List.{range_with_len}
use Rattle.std.proofs.lemmas.List.{length-map}
use Rattle.std.proofs.lemmas.Result.{on_ok_weaker}
use Rattle.bt_meta.specs.Files.{file_of}
use Rattle.bt_check.specs.TreeSteps.{KeepsTrees}
use Rattle.bt_check.proofs.CheckFault.{all_checkable}
use Rattle.bt_jobs.specs.Plan.{AreShares}
use Rattle.bt_jobs.specs.Trees.{GoByRoots, file_in_part, part_at}
use Rattle.bt_jobs.proofs.Openings.{parts_ready, shares_each}
use Rattle.bt_jobs.proofs.PartReports.{part_report}
use Rattle.bt_jobs.proofs.PartTrees.{parts_begun}
use Rattle.bt_jobs.proofs.Roots.{text_by_root}
use Rattle.bt_jobs.proofs.part.check_part.Goals as goal

pub shares_of-requires-clause-checkable : goal.shares_of-requires-clause-checkable
shares_of-requires-clause-checkable g c =
    let size = c.in-Some.size in
    let bytes : size.bytes ≡ c.args.torrent.now.piece_length = search rules in
    all_checkable size.bytes size.layer (map file_of c.files-entries.result.now) size.of_layer (rw bytes c.files-entries.ensures.lawful) c.layers_are_of_trees.ensures

pub open_part-requires-clause-each : goal.open_part-requires-clause-each
open_part-requires-clause-each g c =
    let entries = c.files-entries.result.now in
    ap length c.deref.ensures.value
    ∙ shares_each c.in-Some.size.layer c.args.part (map file_of entries) c.in_ok-shares.shares.items c.in_ok-shares.ensures ∙ length-map entries file_of

pub check_each-requires-clause-ready : goal.check_each-requires-clause-ready
check_each-requires-clause-ready g c =
    let size = c.in-Some.size in
    let entries = c.files-entries.result.now in
    let opened = c.in_ok-files.files.items in
    let bytes : size.bytes ≡ c.args.torrent.now.piece_length = search rules in
    parts_ready size.layer c.args.part (map file_of entries) c.in_ok-shares.shares.items (map part_at opened) c.in_ok-shares.ensures c.in_ok-files.ensures.files
    (c.in_ok-files.ensures.shares ∙ c.deref.ensures.value)
    (all_checkable size.bytes size.layer (map file_of entries) size.of_layer (rw bytes c.files-entries.ensures.lawful) c.layers_are_of_trees.ensures)

pub check_each-requires-clause-trees : goal.check_each-requires-clause-trees
check_each-requires-clause-trees g c =
    let size = c.in-Some.size in
    let opened = c.in_ok-files.files.items in
    let roots = text_by_root c.requires.0 c.args.torrent.now c.requires.1 in (
      roots.0,
      subst (GoByRoots roots.0) (sym (c.in_ok-files.ensures.files ∙ c.files-entries.ensures.said)) roots.1,
      parts_begun size.layer roots.0 (map file_in_part (map part_at opened)) c.in_ok-trees.trees
          (subst (λ files. KeepsTrees size.layer [] files c.in_ok-trees.trees) (sym c.in_ok-files.ensures.files) (c.in_ok-trees.ensures size.layer)),
    )

pub returns-clause-report : goal.returns-clause-report
returns-clause-report g c =
    let size = c.in-Some.size in
    let bytes : size.bytes ≡ c.args.torrent.now.piece_length = search rules in
    let entries = c.files-entries.result.now in
    let opened = c.in_ok-files.files.items in
    on_ok_weaker c.check_each.result
    (λ told. part_report c.args.dir.now c.args.torrent.now c.args.part size.layer size.bytes (map file_of entries) opened _ _ (sym bytes) size.of_layer
    c.files-entries.ensures.said c.in_ok-files.ensures.files (c.in_ok-files.ensures.numbers ∙ ap (range_with_len 0) (sym (length-map entries file_of)))
    (subst (AreShares size.layer c.args.part (map file_of entries)) (sym (c.in_ok-files.ensures.shares ∙ c.deref.ensures.value)) c.in_ok-shares.ensures)
    c.in_ok-files.ensures.paths told) c.check_each.ensures.told
