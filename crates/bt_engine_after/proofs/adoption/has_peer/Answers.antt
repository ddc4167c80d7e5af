use Rattle.std.proofs.Common.{rules}
use Rattle.bt_engine_after.proofs.adoption.has_peer.Goals as goal

pub returns : goal.returns
returns g c = search rules
