use Rattle.bt_meta.proofs.FileLayers.{tree_layer}
use Rattle.bt_meta.proofs.law.layers_are_of_trees.Goals as goal

pub returns : goal.returns
returns c = tree_layer
