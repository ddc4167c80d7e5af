use Rattle.std.proofs.Common.{Some, None, ap, ◌∙◌}
use Rattle.std.specs.Prelude.{Ok}
use Rattle.std.proofs.lemmas.Result.{on_ok_weaker}
use Rattle.bt_jobs.proofs.Turning.{looked_any, looked_well}
use Rattle.bt_jobs.proofs.children.look_at.Goals as goal

pub returns-in-Ok-Some-clause-seen : goal.returns-in-Ok-Some-clause-seen
returns-in-Ok-Some-clause-seen g c =
    let is = c.in-Ok-Some.is ∙ ap (λ o. Ok o) c.in-Ok-Some.field-0-is in
    on_ok_weaker c.part_outcome.result
    (λ well text looks. looked_well g.C.StartedPart.stands c.look.result (Some c.in-Ok-Some.status) _ _ is c.look.ensures well text looks)
    c.part_outcome.ensures.well

pub returns-in-Ok-None-clause-seen : goal.returns-in-Ok-None-clause-seen
returns-in-Ok-None-clause-seen g c =
    looked_well g.C.StartedPart.stands c.look.result None _ _ (c.in-Ok-None.is ∙ ap (λ o. Ok o) c.in-Ok-None.field-0-is) c.look.ensures tt

pub returns-in-Ok-Some-clause-kept : goal.returns-in-Ok-Some-clause-kept
returns-in-Ok-Some-clause-kept g c = looked_any g.C.StartedPart.stands c.look.result _ _ c.look.ensures

pub returns-in-Ok-None-clause-kept : goal.returns-in-Ok-None-clause-kept
returns-in-Ok-None-clause-kept g c = looked_any g.C.StartedPart.stands c.look.result _ _ c.look.ensures

pub returns-in-Err-clause-kept : goal.returns-in-Err-clause-kept
returns-in-Err-clause-kept g c = looked_any g.C.StartedPart.stands c.look.result _ _ c.look.ensures
