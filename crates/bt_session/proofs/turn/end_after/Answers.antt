use Rattle.std.proofs.Common.{rules}
use Rattle.bt_session.proofs.turn.end_after.Goals as goal

pub returns-in-None : goal.returns-in-None
returns-in-None g c = search rules
