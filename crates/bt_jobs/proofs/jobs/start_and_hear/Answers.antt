use Rattle.std.proofs.Common.{OnOk, ℕ, List, map, sym, subst, ◌∙◌}
use Rattle.std.proofs.lemmas.List.{with_items_is}
use Rattle.std.proofs.lemmas.Result.{on_ok_weaker}
use Rattle.std.specs.Vec.{with_items}
use Rattle.bt_jobs.specs.JobsSteps.{HearsAll}
use Rattle.bt_jobs.specs.Parts.{AreStarted, IsDone, IsSeen}
use Rattle.bt_jobs.specs.PartsSteps.{IsAny, TurnAll}
use Rattle.bt_jobs.specs.Starts.{start_of}
use Rattle.bt_jobs.proofs.Hearing.{ok_is}
use Rattle.bt_jobs.proofs.Starting.{started_turned}
use Rattle.bt_jobs.proofs.jobs.start_and_hear.Goals as goal

pub returns-clause-told : goal.returns-clause-told
returns-clause-told g c =
    let old = g.I.Read.remaining c.args.output.now in
    let new = g.I.Read.remaining c.hear_to_ends.new.output in
    subst (λ r. OnOk r (HearsAll old new c.args.told.now c.hear_to_ends.new.told)) (sym c.of_parts.ensures) c.hear_to_ends.ensures.told

pub returns-clause-done : goal.returns-clause-done
returns-clause-done g c =
    let starts = g.L.Starter.starts in
    let stands = g.L.Part.StartedPart.stands in
    let text = c.args.loaded.now.text.items in
    let mid = c.start_all-started.new.parts in
    let old = c.args.starter.now in
    let new = c.start_all-started.new.starter in
    let are = map start_of c.args.commands.items in
    let items = with_items_is mid c.hear_to_ends.new.children (c.hear_to_ends.auto.children ∙ c.deref_mut.ensures.len) in
    let started = ok_is c.start_all-started.result _ (λ _. AreStarted starts stands (IsSeen c.deref.result.now 0) old are new mid.items) c.in_ok-started.was
    c.start_all-started.ensures.started in
    let seen = subst (λ t. AreStarted starts stands (IsSeen t 0) old are new mid.items) c.deref.ensures.value started in
    subst (λ r. OnOk r (AreStarted starts stands (IsDone text) old are new (with_items mid c.hear_to_ends.new.children).items)) (sym c.of_parts.ensures)
    (on_ok_weaker c.hear_to_ends.result (λ turn. subst (AreStarted starts stands (IsDone text) old are new) (sym items)
    (started_turned starts stands (IsSeen text 0) (IsDone text) old new are mid.items c.hear_to_ends.new.children seen
    (subst (λ ps. TurnAll stands (IsSeen text 0) (IsDone text) ps c.hear_to_ends.new.children) c.deref_mut.ensures.value (turn text)))) c.hear_to_ends.ensures.done)

pub returns-clause-all : goal.returns-clause-all
returns-clause-all g c =
    let starts = g.L.Starter.starts in
    let stands = g.L.Part.StartedPart.stands in
    let mid = c.start_all-started.new.parts in
    let old = c.args.starter.now in
    let new = c.start_all-started.new.starter in
    let all = c.start_all-started.ensures.all in
    let items = with_items_is mid c.hear_to_ends.new.children (c.hear_to_ends.auto.children ∙ c.deref_mut.ensures.len) in (
      all.0,
      subst (AreStarted starts stands IsAny old all.0 new) (sym items)
          (started_turned starts stands IsAny IsAny old new all.0 mid.items c.hear_to_ends.new.children all.1
          (subst (λ ps. TurnAll stands IsAny IsAny ps c.hear_to_ends.new.children) c.deref_mut.ensures.value c.hear_to_ends.ensures.kept)),
    )
