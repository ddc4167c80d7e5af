use Rattle.bt_jobs.proofs.Turning.{ended_over}
use Rattle.bt_jobs.proofs.children.end_part.Goals as goal

pub returns : goal.returns
returns g c = ended_over g.C.StartedPart.stands c.join.result _ _ _ c.end.ensures c.join.ensures
