use Rattle.bt_tree.proofs.layer_fold.+eight_nodes.Given as goal

abbrev pub decreases-eight_nodes : goal.decreases-eight_nodes
decreases-eight_nodes g l = l.below
