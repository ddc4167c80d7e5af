use Rattle.bt_wire.proofs.Streams.{no_difference}
use Rattle.bt_wire.proofs.law.cutting_makes_no_difference.Goals as goal

pub returns : goal.returns
returns c = no_difference
