use Rattle.bt_jobs.proofs.Turning.{passed_or_not, passed_whole}
use Rattle.bt_jobs.proofs.children.pass_to.Goals as goal

pub returns-in-Ok-clause-passed : goal.returns-in-Ok-clause-passed
returns-in-Ok-clause-passed g c = passed_whole g.C.StartedPart.stands c.args.text.now c.pass.result _ _ _ c.in-Ok.is c.pass.ensures

pub returns-in-Err-clause-over : goal.returns-in-Err-clause-over
returns-in-Err-clause-over g c =
    λ start part. c.end_part.ensures start (passed_or_not g.C.StartedPart.stands c.args.text.now c.pass.result _ _ c.pass.ensures start part)
