use Rattle.std.proofs.Common.{refl, ◌∙◌, arith}
use Rattle.std.proofs.lemmas.List.Elements.{All-get_or}
use Rattle.bt_resume.specs.Hint.{IsRun}
use Rattle.bt_engine_after.specs.declared.marks.FileRun.{FileRun}
use Rattle.bt_engine_after.proofs.Hints.{runs_more}
use Rattle.bt_engine_after.proofs.marks.push_runs.Goals as goal

pub push-requires-clause-readable : goal.push-requires-clause-readable
push-requires-clause-readable c =
    All-get_or (λ (r : FileRun). IsRun r.first r.count) c.args.runs.now c.loop-run.run-index _ (omega (arith, c.loop-run-test.true)) c.requires.runs.each

pub loop-run-preserved : goal.loop-run-preserved
loop-run-preserved c =
    let l = c.loop-run in
    let runs = c.args.runs.now in
    record {
      hints = c.push.ensures.hints
          ∙ runs_more c.args.pending.now.hints l.pending.hints c.args.file runs l.run-index _ (omega (arith, c.loop-run-test.true)) refl
          (All-get_or (λ (r : FileRun). IsRun r.first r.count) runs l.run-index _ (omega (arith, c.loop-run-test.true)) c.requires.runs.each).some l.invariant.hints;
      room = omega (arith, l.invariant.room, c.push.ensures.room);
    }
