use Rattle.std.proofs.Common.{arith}
use Rattle.std.proofs.lemmas.Result.{on_ok_weaker}
use Rattle.bt_jobs.proofs.PartTrees.{part_checked}
use Rattle.bt_jobs.proofs.trees.check_present.Goals as goal

pub returns-clause-told : goal.returns-clause-told
returns-clause-told g c =
    let d = g.D.Disk in
    on_ok_weaker c.check_blocks.result
    (λ blocks. part_checked d.conduct c.args.size.layer c.args.part c.args.disk c.tell_length.new.disk c.args.kept.now _ _ _ _
    (omega (arith, c.requires.ready.forward, c.requires.ready.inside)) c.in_ok-tell_length.ensures.told blocks) c.check_blocks.ensures.told
