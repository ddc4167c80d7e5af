use Rattle.bt_connection.proofs.Passages.{remembers}
use Rattle.bt_connection.proofs.law.remembers_short_blocks.Goals as goal

pub returns : goal.returns
returns c = remembers
