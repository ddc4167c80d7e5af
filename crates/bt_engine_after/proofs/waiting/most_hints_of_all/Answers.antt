use Rattle.std.proofs.Common.{List, ap, ◌∙◌, arith}
use Rattle.bt_engine_after.specs.declared.marks.FileRun.{FileRun}
use Rattle.bt_engine_after.specs.declared.waiting.FileRuns.{FileRuns}
use Rattle.bt_engine_after.specs.MarksSteps.{most_hints}
use Rattle.bt_engine_after.proofs.RunMarks.{sum_with_one}
use Rattle.bt_engine_after.proofs.OtherMarks.{few_in}
use Rattle.bt_engine_after.proofs.waiting.most_hints_of_all.Goals as goal

pub most_hints-hints-requires : goal.most_hints-hints-requires
most_hints-hints-requires c =
    few_in c.args.listed.now c.requires.runs c.loop-one.one-index (omega (arith, c.loop-one-test.true)) c.one-item.is c.deref.ensures.value

pub overflow_add-hints : goal.overflow_add-hints
overflow_add-hints c =
    let l = c.loop-one in
    let few = few_in c.args.listed.now c.requires.runs l.one-index (omega (arith, c.loop-one-test.true)) c.one-item.is c.deref.ensures.value in
    omega (arith, few, l.invariant.few, c.requires.few, c.loop-one-test.true, c.most_hints-hints.ensures)

pub loop-one-preserved : goal.loop-one-preserved
loop-one-preserved c =
    let l = c.loop-one in
    let few = few_in c.args.listed.now c.requires.runs l.one-index (omega (arith, c.loop-one-test.true)) c.one-item.is c.deref.ensures.value in
    record {
      hints = sum_with_one (λ (x : FileRuns). most_hints x.runs.items) c.args.listed.now l.one-index c.one-item.result (omega (arith, c.loop-one-test.true)) c.one-item.is
          l.hints c.most_hints-hints.result l.invariant.hints (c.most_hints-hints.ensures ∙ ap (λ (runs : List FileRun). most_hints runs) c.deref.ensures.value);
      few = omega (arith, few, l.invariant.few, c.most_hints-hints.ensures);
    }
