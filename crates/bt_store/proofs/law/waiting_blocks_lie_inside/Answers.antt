use Rattle.bt_store.proofs.Settling.{waiting_differ, waiting_inside}
use Rattle.bt_store.proofs.law.waiting_blocks_lie_inside.Goals as goal

pub returns-clause-differ : goal.returns-clause-differ
returns-clause-differ g c = waiting_differ g.H.NodeHash.digest

pub returns-clause-inside : goal.returns-clause-inside
returns-clause-inside g c = waiting_inside g.H.NodeHash.digest
