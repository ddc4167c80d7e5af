use Rattle.std.proofs.Common.{rules}
use Rattle.bt_sparse.proofs.expansion.in_order.Goals as goal

pub returns-else-node-eq0 : goal.returns-else-node-eq0
returns-else-node-eq0 c = search rules
