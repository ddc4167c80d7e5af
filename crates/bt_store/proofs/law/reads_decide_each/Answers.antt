use Rattle.bt_store.proofs.Settling.{reads_decide}
use Rattle.bt_store.proofs.law.reads_decide_each.Goals as goal

pub returns : goal.returns
returns g c = reads_decide g.H.NodeHash.digest
