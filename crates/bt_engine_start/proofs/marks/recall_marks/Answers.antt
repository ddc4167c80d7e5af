use Rattle.std.proofs.Common.{◌+◌, List, drop, drop_of_length-le, refl, ap, arith}
use Rattle.bt_engine_start.specs.Runs.{marks_of}
use Rattle.bt_engine_start.specs.declared.runs.MarkRun.{MarkRun}
use Rattle.bt_engine_start.proofs.FileRecallings.{recall_first, recall_on, recall_last, marks_from}
use Rattle.bt_engine_start.proofs.marks.recall_marks.Goals as goal

pub loop-run-init : goal.loop-run-init
loop-run-init g c =
    let runs = c.args.runs.now in
    recall_first g.H.NodeHash.digest c.args.trees.now (marks_of runs) (marks_of runs) c.args.slots.now c.args.slots.now refl

pub loop-run-preserved : goal.loop-run-preserved
loop-run-preserved g c =
    let runs = c.args.runs.now in
    let i = c.loop-run.run-index in
    recall_on g.H.NodeHash.digest c.args.trees.now (marks_of runs) (marks_of (drop (i + 1) runs)) c.args.slots.now c.loop-run.slots
    c.recall_in_file.new.slots _ c.recall_in_file.ensures.inside c.recall_in_file.ensures.outside
    (marks_of (drop i runs)) (marks_from runs i _ (omega (arith, c.loop-run-test.true)) refl) c.loop-run.invariant

pub returns : goal.returns
returns g c =
    let runs = c.args.runs.now in
    let i = c.loop-run.run-index in
    recall_last g.H.NodeHash.digest c.args.trees.now (marks_of runs) (marks_of (drop i runs)) c.args.slots.now c.loop-run.slots
    (ap (λ (rs : List MarkRun). marks_of rs) (drop_of_length-le runs (omega (arith, c.loop-run-test.false)))) c.loop-run.invariant
