use Rattle.std.proofs.lemmas.Result.{on_ok_weaker}
use Rattle.bt_jobs.proofs.Turning.{waited_any, waited_well}
use Rattle.bt_jobs.proofs.children.wait_for.Goals as goal

pub returns-in-Ok-clause-ended : goal.returns-in-Ok-clause-ended
returns-in-Ok-clause-ended g c =
    on_ok_weaker c.part_outcome.result
    (λ well text looks. waited_well g.C.StartedPart.stands c.join.result c.in-Ok.status _ _ c.in-Ok.is c.join.ensures well text looks) c.part_outcome.ensures.well

pub returns-in-Ok-clause-kept : goal.returns-in-Ok-clause-kept
returns-in-Ok-clause-kept g c = waited_any g.C.StartedPart.stands c.join.result _ _ c.join.ensures

pub returns-in-Err-clause-kept : goal.returns-in-Err-clause-kept
returns-in-Err-clause-kept g c = waited_any g.C.StartedPart.stands c.join.result _ _ c.join.ensures
