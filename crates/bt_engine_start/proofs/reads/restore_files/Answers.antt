use Rattle.std.proofs.Common.{◌∙◌, slice_get}
use Rattle.bt_engine_start.specs.Runs.{marks_of}
use Rattle.bt_engine_start.proofs.FileRecallings.{recalled_alike}
use Rattle.bt_engine_start.proofs.Readings.{have_still, all_restored, slots_kept, sizes_kept}
use Rattle.bt_engine_start.proofs.reads.restore_files.Goals as goal

pub settle_files-requires : goal.settle_files-requires
settle_files-requires g c =
    let d = g.D.Disk in
    have_still d.conduct g.H.NodeHash.digest (marks_of c.args.runs.now) c.args.trees.now c.args.slots.now c.recall_marks.new.slots c.recall_marks.ensures c.requires.trees

pub returns-clause-restores : goal.returns-clause-restores
returns-clause-restores g c = λ hints are.
    let d = g.D.Disk in
    let dig = g.H.NodeHash.digest in
    let trees = c.args.trees.now in
    all_restored d.conduct dig hints trees c.args.slots.now c.recall_marks.new.slots
    (λ file. c.recall_marks.ensures file ∙ recalled_alike trees dig hints (marks_of c.args.runs.now) file are.recorded (slice_get c.args.slots.now file))
    c.requires.trees c.settle_files.new.slots c.settle_files.ensures (c.settle_files.auto.slots ∙ c.recall_marks.auto.slots) c.requires.missing

pub returns-clause-kept : goal.returns-clause-kept
returns-clause-kept g c =
    let d = g.D.Disk in
    slots_kept d.conduct g.H.NodeHash.digest (marks_of c.args.runs.now) c.args.trees.now c.args.slots.now c.recall_marks.new.slots c.recall_marks.ensures c.requires.trees
    c.settle_files.new.slots c.settle_files.ensures (c.settle_files.auto.slots ∙ c.recall_marks.auto.slots) c.requires.missing

pub returns-clause-sizes : goal.returns-clause-sizes
returns-clause-sizes g c =
    let d = g.D.Disk in
    sizes_kept d.conduct g.H.NodeHash.digest (marks_of c.args.runs.now) c.args.trees.now c.args.slots.now c.recall_marks.new.slots c.recall_marks.ensures c.requires.trees
    c.settle_files.new.slots c.settle_files.ensures (c.settle_files.auto.slots ∙ c.recall_marks.auto.slots) c.requires.missing
