use Rattle.bt_engine.specs.Leads.{both}
use Rattle.bt_together.proofs.fetching.take_in.Goals as goal

pub returns-in-Err-clause-run : goal.returns-in-Err-clause-run
returns-in-Err-clause-run g c = both c.args.engine.now c.adopt_waiting.new.engine c.finish.new.engine c.in-Err.ensures.run c.finish.ensures.run
