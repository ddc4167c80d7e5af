use Rattle.std.proofs.Common.{rules}
use Rattle.bt_bencode.proofs.number.leads_with_zero.Goals as goal

pub returns-then-negative : goal.returns-then-negative
returns-then-negative c = search rules

pub returns-else-negative : goal.returns-else-negative
returns-else-negative c = search rules
