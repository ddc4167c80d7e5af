use Rattle.bt_engine.specs.Leads.{none}
use Rattle.bt_transfer.proofs.at_once.serve_at_once.Goals as goal

pub returns-in_err-seats-clause-run : goal.returns-in_err-seats-clause-run
returns-in_err-seats-clause-run g c = none c.args.engine.now

pub returns-in-Err-clause-run : goal.returns-in-Err-clause-run
returns-in-Err-clause-run g c = none c.args.engine.now
