use Rattle.std.proofs.Common.{sym, subst, ◌∙◌}
use Rattle.std.proofs.lemmas.List.{with_items_is}
use Rattle.bt_jobs.specs.Parts.{AreStarted, IsOver}
use Rattle.bt_jobs.specs.PartsSteps.{IsAny, TurnAll}
use Rattle.bt_jobs.proofs.Starting.{done_over, started_turned}
use Rattle.bt_jobs.proofs.jobs.hear_parts.Goals as goal

pub returns-in-Ok-clause-over : goal.returns-in-Ok-clause-over
returns-in-Ok-clause-over g c = (_, done_over g.L.Starter.starts g.L.Part.StartedPart.stands _ _ _ _ _ c.in-Ok.ensures.done)

pub returns-in-Err-clause-over : goal.returns-in-Err-clause-over
returns-in-Err-clause-over g c =
    let starts = g.L.Starter.starts in
    let stands = g.L.Part.StartedPart.stands in
    let old = c.args.starter.now in
    let new = c.start_and_hear.new.starter in
    let mid = c.start_and_hear.new.parts in
    let all = c.start_and_hear.ensures.all in
    let items = with_items_is mid c.end_all.new.children (c.end_all.auto.children ∙ c.deref_mut.ensures.len) in (
      all.0,
      subst (AreStarted starts stands IsOver old all.0 new) (sym items)
          (started_turned starts stands IsAny IsOver old new all.0 mid.items c.end_all.new.children all.1
          (subst (λ ps. TurnAll stands IsAny IsOver ps c.end_all.new.children) c.deref_mut.ensures.value c.end_all.ensures)),
    )
