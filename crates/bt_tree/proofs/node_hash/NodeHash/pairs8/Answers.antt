use Rattle.std.proofs.Common.{rules}
use Rattle.bt_tree.proofs.node_hash.NodeHash.pairs8.Goals as goal

pub loop-j-preserved : goal.loop-j-preserved
loop-j-preserved g c = search rules
