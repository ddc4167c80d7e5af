use Rattle.std.proofs.Common.{rules}
use Rattle.bt_connection.proofs.read_ahead.ReadAhead.is_ready.Goals as goal

pub returns : goal.returns
returns g c = search rules
