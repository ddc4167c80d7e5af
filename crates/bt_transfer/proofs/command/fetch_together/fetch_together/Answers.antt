use Rattle.bt_engine.specs.Leads.{none}
use Rattle.bt_files.specs.Ending.{IsEndFault}
use Rattle.bt_files.proofs.Faults.{passed_on}
use Rattle.bt_together.proofs.Swarms.{fails_at_end}
use Rattle.bt_transfer.proofs.command.fetch_together.fetch_together.Goals as goal

pub returns-in_err-addresses-clause-run : goal.returns-in_err-addresses-clause-run
returns-in_err-addresses-clause-run g c = none c.args.engine.now

pub returns-in_err-status-clause-fault : goal.returns-in_err-status-clause-fault
returns-in_err-status-clause-fault g c =
    passed_on c.from_residual-in_err-status.result _ (IsEndFault c.args.engine.now.log) c.from_residual-in_err-status.ensures.1
    (fails_at_end g.D.Disk.conduct g.H.NodeHash.digest c.args.engine.now _ c.in_err-status.ensures.cause)
