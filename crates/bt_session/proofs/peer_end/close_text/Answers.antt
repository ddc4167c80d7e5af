use Rattle.std.proofs.Common.{rules}
use Rattle.bt_session.proofs.peer_end.close_text.Goals as goal

pub returns-in-BadRequest : goal.returns-in-BadRequest
returns-in-BadRequest c = search rules
