use Rattle.bt_connection.proofs.Passages.{pads_asked}
use Rattle.bt_connection.proofs.law.pads_what_was_asked.Goals as goal

pub returns : goal.returns
returns c = pads_asked
