use Rattle.std.proofs.Common.{sym, ap}
use Rattle.bt_engine_start.specs.StartingSteps.{log_in}
use Rattle.bt_engine_start.proofs.starting.given_back.Goals as goal

pub returns-in-Some : goal.returns-in-Some
returns-in-Some g c = sym (ap log_in c.in-Some.is)

pub returns-in-None : goal.returns-in-None
returns-in-None g c = sym (ap log_in c.in-None.is)
