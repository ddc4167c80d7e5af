use Rattle.std.proofs.Common.{map, sym, subst, ap, ◌∙◌, arith}
use Rattle.std.proofs.lemmas.Bool.{eqb-true}
use Rattle.std.proofs.lemmas.List.{get_or-map, length-map}
use Rattle.bt_tree.specs.Blocks.{block_count}
use Rattle.bt_meta.specs.Files.{File, file_of}
use Rattle.bt_meta.specs.declared.torrent.FileEntry.{FileEntry}
use Rattle.bt_parts.specs.Join.{IsJoined}
use Rattle.bt_jobs.specs.Report.{finding_of}
use Rattle.bt_jobs.proofs.Reports.{JoinsRest, joined_end, joined_next, joins_begun}
use Rattle.bt_jobs.proofs.report.heard_of.Goals as goal

pub loop-number-init : goal.loop-number-init
loop-number-init c =
    let all = map file_of c.args.files.now in
    subst (λ heard. JoinsRest 0 all all c.args.runs.now c.args.runs.now (map finding_of heard)) (sym c.new-heard.ensures.items) (joins_begun all c.args.runs.now)

pub blocks_of-blocks-requires : goal.blocks_of-blocks-requires
blocks_of-blocks-requires c =
    let files = c.args.files.now in
    let file = c.index-files-number.result in
    let short = c.requires.short c.loop-number.number (file_of file) (omega (arith, c.loop-number-test.true, length-map files file_of)) in
    let is = get_or-map file_of files c.loop-number.number file (file_of file) c.loop-number-test.true in
    omega (arith, short, ap (λ (f : File). f.length) is)

pub loop-number-preserved : goal.loop-number-preserved
loop-number-preserved c =
    let files = c.args.files.now in
    let number = c.loop-number.number in
    let file = c.index-files-number.result in
    let joined = c.in-Some.ensures.some in
    joined_next (map file_of files) number (file_of file) c.args.runs.now _ joined.0 _ _ _ _ (omega (arith, c.loop-number-test.true, length-map files file_of))
    (sym (get_or-map file_of files number file (file_of file) c.loop-number-test.true ∙ ap file_of (sym c.index-files-number.is))) c.loop-number.invariant joined.1 joined.2
    (subst (λ b. IsJoined number b joined.0 c.in-Some.finding)
    (c.blocks_of-blocks.ensures ∙ ap (λ (f : FileEntry). block_count f.length) (sym c.index-files-number.is)) joined.3) c.in_ok-push.ensures.items

pub returns-clause-joined : goal.returns-clause-joined
returns-clause-joined c =
    let files = c.args.files.now in
    joined_end (map file_of files) c.loop-number.number c.args.runs.now _ c.loop-number.heard.items (omega (arith, c.loop-number-test.false, length-map files file_of))
    c.loop-number.invariant (eqb-true _ 0 (sym c.is_empty.ensures ∙ c.if-not-is_empty.false))
