use Rattle.std.proofs.Common.{ℕ, List, sym, ap, ◌∙◌}
use Rattle.bt_machine.specs.Hints.{add_hints}
use Rattle.bt_engine_after.specs.MarksSteps.{marks_in}
use Rattle.bt_engine_after.proofs.Hints.{run_is}
use Rattle.bt_engine_after.proofs.RunMarks.{no_blocks}
use Rattle.bt_engine_after.proofs.marks.push_run.Goals as goal

pub returns-then-run-gt0-clause-hints : goal.returns-then-run-gt0-clause-hints
returns-then-run-gt0-clause-hints c =
    c.push.ensures.hints ∙ run_is c.args.pending.now.hints c.args.file c.args.run.first c.args.run.count c.if-run-gt0.true

pub returns-else-run-gt0-clause-hints : goal.returns-else-run-gt0-clause-hints
returns-else-run-gt0-clause-hints c =
    sym (ap (λ (blocks : List ℕ). add_hints c.args.pending.now.hints (marks_in c.args.file blocks)) (no_blocks c.args.run c.if-run-gt0.false))
