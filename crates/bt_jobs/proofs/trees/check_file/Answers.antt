use Rattle.std.proofs.Common.{None, Some}
use Rattle.std.proofs.lemmas.Result.{on_ok_weaker}
use Rattle.bt_jobs.proofs.PartTrees.{absent_checked, part_with}
use Rattle.bt_jobs.proofs.trees.check_file.Goals as goal

pub returns-in-Some-clause-told : goal.returns-in-Some-clause-told
returns-in-Some-clause-told g c =
    let d = g.D.Disk in
    on_ok_weaker c.check_present.result
    (λ checks. part_with d.conduct c.args.size.layer c.args.part c.args.disk (Some c.in-Some.disk) _ _ _ _ c.in-Some.is checks)
    c.check_present.ensures.told

pub returns-in-None-clause-told : goal.returns-in-None-clause-told
returns-in-None-clause-told g c =
    let d = g.D.Disk in
    on_ok_weaker c.tell_absent.result
    (λ told. part_with d.conduct c.args.size.layer c.args.part c.args.disk None _ _ _ _ c.in-None.is
    (absent_checked d.conduct c.args.size.layer c.args.part c.args.kept.now _ _ told)) c.tell_absent.ensures.told
