use Rattle.std.proofs.Common.{◌+◌, List, flat_map, sym, ap, ◌∙◌, subst, arith}
use Rattle.bt_engine_after.specs.declared.marks.FileRun.{FileRun}
use Rattle.bt_engine_after.specs.MarksSteps.{run_blocks, AreRuns, EndBefore}
use Rattle.bt_engine_after.proofs.RunMarks.{run_put, run_empty, are_more, ends_more, ends_later}
use Rattle.bt_engine_after.proofs.marks.close.Goals as goal

pub returns-in_ok-push-clause-blocks : goal.returns-in_ok-push-clause-blocks
returns-in_ok-push-clause-blocks c =
    ap (λ (runs : List FileRun). flat_map run_blocks runs) c.in_ok-push.ensures.items ∙ run_put c.args.runs.now.items c.args.run

pub returns-in_ok-push-clause-runs : goal.returns-in_ok-push-clause-runs
returns-in_ok-push-clause-runs c =
    subst (λ (runs : List FileRun). AreRuns runs) (sym c.in_ok-push.ensures.items)
    (are_more c.args.runs.now.items c.args.run c.requires.runs c.requires.before c.if-run-gt0.true c.requires.within)

pub returns-in_ok-push-clause-before : goal.returns-in_ok-push-clause-before
returns-in_ok-push-clause-before c =
    subst (λ (runs : List FileRun). EndBefore (c.args.run.first + c.args.run.count + 1) runs) (sym c.in_ok-push.ensures.items)
    (ends_more c.args.runs.now.items c.args.run c.requires.before)

pub returns-else-run-gt0-clause-blocks : goal.returns-else-run-gt0-clause-blocks
returns-else-run-gt0-clause-blocks c = run_empty c.args.runs.now.items c.args.run c.if-run-gt0.false

pub returns-else-run-gt0-clause-before : goal.returns-else-run-gt0-clause-before
returns-else-run-gt0-clause-before c =
    ends_later c.args.runs.now.items c.args.run.first (c.args.run.first + c.args.run.count + 1) (omega arith) c.requires.before
