use Rattle.bt_files.proofs.Faults.{passed_on}
use Rattle.bt_together.proofs.Swarms.{flush_refused}
use Rattle.bt_together.proofs.ending.sync_behind.Goals as goal

pub returns-in_err-finish-clause-cause : goal.returns-in_err-finish-clause-cause
returns-in_err-finish-clause-cause g c =
    passed_on c.from_residual.result _ _ c.from_residual.ensures.1
    (flush_refused g.D.Disk.conduct g.H.NodeHash.digest c.args.engine.now c.finish.new.engine _ c.in_err-finish.ensures.failed)
