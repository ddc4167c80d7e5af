use Rattle.std.proofs.lemmas.Result.{on_ok_weaker}
use Rattle.bt_jobs.proofs.PartTrees.{length_asked, length_unasked}
use Rattle.bt_jobs.proofs.trees.tell_length.Goals as goal

pub returns-then-not-part-clause-told : goal.returns-then-not-part-clause-told
returns-then-not-part-clause-told g c =
    let d = g.D.Disk in
    length_unasked d.conduct c.args.part c.args.disk.now _ c.if-not-part.true

pub returns-clause-told : goal.returns-clause-told
returns-clause-told g c =
    let d = g.D.Disk in
    on_ok_weaker c.tell_none.result
    (λ told. length_asked d.conduct c.args.part c.args.disk.now _ c.length_of-length.result c.measured-met.result _ _ c.if-not-part.false
    c.measured-met.ensures c.length_of-length.ensures told) c.tell_none.ensures.told
