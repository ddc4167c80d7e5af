use Rattle.std.proofs.Common.{◌+◌, map, sym, subst, refl, arith}
use Rattle.bt_meta.specs.Files.{file_of}
use Rattle.bt_jobs.proofs.Plans.{IsPlacing, all_placed, one_short, placing_begun, placing_more, taken_all, taken_more}
use Rattle.bt_jobs.proofs.plan.Plan.new.Goals as goal

pub loop-file-init : goal.loop-file-init
loop-file-init c = placing_begun c.args.size.layer (map file_of c.args.files.now) _ _ c.new.ensures.empty refl c.new-cuts.ensures.items

pub place_of-requires : goal.place_of-requires
place_of-requires c =
    let short = one_short c.args.size.layer c.args.files.now c.loop-file.file-index c.file-item.result c.requires.checkable c.loop-file-test.true c.file-item.is in
    omega (arith, short, c.loop-file.invariant.few, c.requires.few, c.loop-file-test.true)

pub blocks_of-requires : goal.blocks_of-requires
blocks_of-requires c =
    one_short c.args.size.layer c.args.files.now c.loop-file.file-index c.file-item.result c.requires.checkable c.loop-file-test.true c.file-item.is

pub unit_of-requires : goal.unit_of-requires
unit_of-requires c =
    one_short c.args.size.layer c.args.files.now c.loop-file.file-index c.file-item.result c.requires.checkable c.loop-file-test.true c.file-item.is

pub loop-file-preserved : goal.loop-file-preserved
loop-file-preserved c =
    let files = c.args.files.now in
    let file = c.file-item.result in
    let i = c.loop-file.file-index in
    subst (λ cuts. IsPlacing c.args.size.layer (i + 1) (map file_of files) c.place_of.new.self cuts) (sym c.in_ok-push.ensures.items)
    (placing_more c.args.size.layer i (map file_of files) c.loop-file.places c.place_of.new.self c.loop-file.cuts.items (file_of file) _
    c.loop-file.invariant (taken_more file_of files i file c.loop-file-test.true c.file-item.is)
    (one_short c.args.size.layer files i file c.requires.checkable c.loop-file-test.true c.file-item.is)
    c.in_ok-place.ensures.known c.in_ok-place.ensures.placed c.blocks_of.ensures c.unit_of.ensures)

pub returns : goal.returns
returns c =
    let files = c.args.files.now in
    all_placed c.args.size.layer c.loop-file.file-index (map file_of files) c.loop-file.places c.loop-file.cuts.items _ c.loop-file.invariant
    (taken_all file_of files c.loop-file.file-index (omega (arith, c.loop-file-test.false))) (omega (arith, c.requires.few, c.loop-file.auto.file-index-end)) refl refl
