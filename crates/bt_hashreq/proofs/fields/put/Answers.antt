use Rattle.std.proofs.Common.{rules}
use Rattle.std.proofs.lemmas.Slice.{overwrites}
use Rattle.bt_hashreq.proofs.fields.put.Goals as goal

pub returns-clause-behind : goal.returns-clause-behind
returns-clause-behind g c = search (rules, overwrites)
