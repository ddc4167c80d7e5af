use Rattle.bt_engine_after.proofs.Settlements.{due_is}
use Rattle.bt_engine_after.proofs.settling.is_due.Goals as goal

pub returns-then-slot-tree : goal.returns-then-slot-tree
returns-then-slot-tree g c = due_is c.args.slot.now c.args.tree c.in-Some.is c.if-slot-tree.true c.waiting.result c.waiting.ensures
