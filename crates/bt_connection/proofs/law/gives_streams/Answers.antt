use Rattle.bt_connection.proofs.Streams.{gives_streams}
use Rattle.bt_connection.proofs.law.gives_streams.Goals as goal

pub returns : goal.returns
returns c = gives_streams c.streams_have_one_reading.ensures
