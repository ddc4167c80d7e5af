use Rattle.std.proofs.lemmas.Result.{on_ok_weaker}
use Rattle.bt_jobs.proofs.PartTrees.{absent_told}
use Rattle.bt_jobs.proofs.trees.tell_absent.Goals as goal

pub returns-clause-told : goal.returns-clause-told
returns-clause-told g c =
    on_ok_weaker c.tell_missing.result
    (λ missing. absent_told c.args.part _ _ _ c.requires.forward c.requires.inside c.in_ok-tell_first.ensures.told missing) c.tell_missing.ensures.told
