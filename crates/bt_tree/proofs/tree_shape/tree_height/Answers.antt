use Rattle.std.proofs.Common.{arith, refl}
use Rattle.bt_tree.proofs.TreeShape.{height_from_zeros, height_is, same_height}
use Rattle.bt_tree.proofs.tree_shape.tree_height.Goals as goal

pub returns-clause-value : goal.returns-clause-value
returns-clause-value c =
    same_height c.args.count _ _ (height_from_zeros c.args.count c.args.count _ refl c.requires (omega arith) refl) (height_is c.args.count)
