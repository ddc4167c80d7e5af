use Rattle.bt_tree.proofs.TreeShape.{height_is}
use Rattle.bt_tree.proofs.law.heights_are_least.Goals as goal

pub returns : goal.returns
returns c = height_is
