use Rattle.std.proofs.Common.{◌∷◌, List, sym, ap, ◌∙◌, rules}
use Rattle.std.specs.Prelude.{◌||◌}
use Rattle.bt_resume.specs.LentHint.{hint_of}
use Rattle.bt_resume.specs.declared.hint.Hint.{Hint}
use Rattle.bt_machine.specs.Hints.{is_recorded}
use Rattle.bt_engine_start.specs.Runs.{marks_of}
use Rattle.bt_engine_start.specs.declared.runs.MarkRun.{MarkRun}
use Rattle.bt_engine_start.proofs.Joins.{gathers_on, gathers_past, all_gathered}
use Rattle.bt_engine_start.proofs.runs.gather_runs.Goals as goal

pub loop-hint-init : goal.loop-hint-init
loop-hint-init c = record {
  can = tt;
  finite = tt;
  leads = λ b. (
      ap (λ (rs : List MarkRun). is_recorded (marks_of rs) b || is_recorded c.into_iter-hint-iterator.result b) c.in_ok-runs.ensures.items
      ∙ ap (λ (hs : List Hint). is_recorded hs b) (c.into_iter-hint-iterator.ensures.into_iter_gives ∙ c.iter-hint-items.ensures)
      );
}

pub loop-hint-preserved-in-Continue-branch-2 : goal.loop-hint-preserved-in-Continue-branch-2
loop-hint-preserved-in-Continue-branch-2 c = record {
  can = tt;
  finite = tt;
  leads = λ b. (
      ap (λ (rs : List MarkRun). is_recorded (marks_of rs) b || is_recorded c.next.new.self b) c.in_ok-push.ensures.items
      ∙ gathers_on c.loop-hint.runs.items c.in-Marks.file c.in-Marks.first c.in-Marks.count _ c.loop-hint.hint-iterator c.next.new.self b (search rules)
      (c.in-Some.ensures.steps ∙ ap (λ hint. hint_of hint ∷ c.next.new.self) c.in-Marks.is) (c.loop-hint.invariant.leads b)
      );
}

pub loop-hint-preserved : goal.loop-hint-preserved
loop-hint-preserved c = record {
  can = tt;
  finite = tt;
  leads = λ b. gathers_past c.loop-hint.runs.items c.in_default.field-0 c.in_default.field-1.now c.loop-hint.hint-iterator c.next.new.self b
      (c.in-Some.ensures.steps ∙ ap (λ hint. hint_of hint ∷ c.next.new.self) c.in_default.is) (c.loop-hint.invariant.leads b);
}

pub returns : goal.returns
returns c = λ b.
    all_gathered (is_recorded (marks_of c.loop-hint.runs.items) b)
    (ap (λ (hs : List Hint). is_recorded (marks_of c.loop-hint.runs.items) b || is_recorded hs b) (sym c.in-None.ensures.steps.0) ∙ c.loop-hint.invariant.leads b)
