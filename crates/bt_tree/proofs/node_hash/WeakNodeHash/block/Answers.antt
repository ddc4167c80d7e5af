use Rattle.std.proofs.Common.{rules}
use Rattle.bt_tree.proofs.node_hash.WeakNodeHash.block.Goals as goal

pub returns : goal.returns
returns c = search rules
