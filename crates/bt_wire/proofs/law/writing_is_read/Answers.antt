use Rattle.bt_wire.proofs.Streams.{writing_is_read}
use Rattle.bt_wire.proofs.law.writing_is_read.Goals as goal

pub returns : goal.returns
returns c = writing_is_read
