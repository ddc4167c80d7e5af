use Rattle.std.proofs.Common.{rules}
use Rattle.bt_tree.proofs.tree_shape.Geometry.new.Goals as goal

pub returns-then-length-eq0-clause-lawful : goal.returns-then-length-eq0-clause-lawful
returns-then-length-eq0-clause-lawful c = search rules
