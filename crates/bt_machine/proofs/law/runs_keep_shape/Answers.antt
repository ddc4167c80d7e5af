use Rattle.bt_machine.proofs.Shape.{shape_kept}
use Rattle.bt_machine.proofs.law.runs_keep_shape.Goals as goal

pub returns : goal.returns
returns g c = shape_kept g.H.NodeHash.digest
