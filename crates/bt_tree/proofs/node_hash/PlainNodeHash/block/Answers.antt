use Rattle.std.proofs.Common.{rules}
use Rattle.bt_tree.proofs.node_hash.PlainNodeHash.block.Goals as goal

pub returns : goal.returns
returns c = search rules
