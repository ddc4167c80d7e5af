use Rattle.bt_engine_start.proofs.Restarts.{cleared_some, cleared_none}
use Rattle.bt_engine_start.proofs.anew.clear_slot.Goals as goal

pub returns-in-Some : goal.returns-in-Some
returns-in-Some g c = cleared_some c.in-Some.is c.clear.ensures.others c.clear.ensures.states

pub returns-in_default : goal.returns-in_default
returns-in_default g c = cleared_none c.in_default.is
