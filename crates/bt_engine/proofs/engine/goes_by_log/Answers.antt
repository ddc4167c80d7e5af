use Rattle.bt_engine.proofs.Logs.{goes_by_some, goes_by_none}
use Rattle.bt_engine.proofs.engine.goes_by_log.Goals as goal

pub returns-in-Some : goal.returns-in-Some
returns-in-Some g c = goes_by_some c.args.parts.now c.in-Some.is c.infohash.ensures c.is_whole.ensures

pub returns-in_default : goal.returns-in_default
returns-in_default g c = goes_by_none c.args.parts.now c.in_default.is
