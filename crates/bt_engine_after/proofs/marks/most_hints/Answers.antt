use Rattle.std.proofs.Common.{◌+◌, ◌≤◌, refl, arith}
use Rattle.std.specs.Int.{div_ceil}
use Rattle.bt_tree.specs.Limits.{max_block_count}
use Rattle.bt_engine_after.specs.declared.marks.FileRun.{FileRun}
use Rattle.bt_engine_after.proofs.RunMarks.{sum_fits, sum_with_one}
use Rattle.bt_engine_after.proofs.marks.most_hints.Goals as goal

pub overflow_add-hints : goal.overflow_add-hints
overflow_add-hints c =
    let l = c.loop-run in
    let fits : c.loop-run.hints + c.div_ceil.result ≤ max_block_count =
    sum_fits (λ (r : FileRun). div_ceil r.count 2) c.args.runs.now l.run-index _ (omega (arith, c.loop-run-test.true)) refl max_block_count l.hints c.div_ceil.result c.requires l.invariant c.div_ceil.ensures in
    omega (arith, fits)

pub loop-run-preserved : goal.loop-run-preserved
loop-run-preserved c =
    let l = c.loop-run in
    sum_with_one (λ (r : FileRun). div_ceil r.count 2) c.args.runs.now l.run-index _ (omega (arith, c.loop-run-test.true)) refl l.hints c.div_ceil.result l.invariant c.div_ceil.ensures
