use Rattle.bt_engine.specs.Leads.{none}
use Rattle.bt_transfer.proofs.command.fetch_together.fetch_once.Goals as goal

pub returns-in_err-seats-clause-run : goal.returns-in_err-seats-clause-run
returns-in_err-seats-clause-run g c = none c.args.engine.now

pub returns-in_err-gate-clause-run : goal.returns-in_err-gate-clause-run
returns-in_err-gate-clause-run g c = none c.args.engine.now
