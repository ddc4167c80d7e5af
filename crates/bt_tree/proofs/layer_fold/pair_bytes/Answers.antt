use Rattle.std.proofs.Common.{refl, rules}
use Rattle.bt_tree.proofs.LayerNodes.{two_parts}
use Rattle.bt_tree.proofs.layer_fold.pair_bytes.Goals as goal

pub returns : goal.returns
returns c =
    two_parts c.args.left.now c.args.right.now c.copy_from_slice.new.self c.copy_from_slice-2.new.self _ (search rules) refl
    c.copy_from_slice.ensures.after c.copy_from_slice-2.ensures.after
