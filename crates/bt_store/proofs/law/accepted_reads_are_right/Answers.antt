use Rattle.bt_store.proofs.AdoptionMarks.{accepted_reads}
use Rattle.bt_store.proofs.law.accepted_reads_are_right.Goals as goal

pub returns : goal.returns
returns g c = accepted_reads g.H.NodeHash.digest
