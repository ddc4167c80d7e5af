use Rattle.std.proofs.Common.{rules}
use Rattle.bt_tree.proofs.layers.check_layer.Goals as goal

pub returns-then-layer-height-clause-size : goal.returns-then-layer-height-clause-size
returns-then-layer-height-clause-size g c = search rules

pub returns-then-layer-height-clause-differs : goal.returns-then-layer-height-clause-differs
returns-then-layer-height-clause-differs g c = search rules
