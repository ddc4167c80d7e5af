use Rattle.bt_wire.proofs.Streams.{one_reading}
use Rattle.bt_wire.proofs.law.streams_have_one_reading.Goals as goal

pub returns : goal.returns
returns c = one_reading
