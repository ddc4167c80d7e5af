use Rattle.bt_wire.proofs.Streams.{cuts_are_streams}
use Rattle.bt_wire.proofs.law.cuts_are_streams.Goals as goal

pub returns : goal.returns
returns c = cuts_are_streams
