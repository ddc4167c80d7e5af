use Rattle.std.proofs.Common.{rules}
use Rattle.bt_tree.proofs.tree_shape.Geometry.width.Goals as goal

pub returns : goal.returns
returns c = search rules
