use Rattle.std.proofs.Common.{rules}
use Rattle.bt_tree.proofs.tree_shape.Geometry.blocks.Goals as goal

pub returns-clause-value : goal.returns-clause-value
returns-clause-value c = search rules

pub returns-clause-some : goal.returns-clause-some
returns-clause-some c = search rules
