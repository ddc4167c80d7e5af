use Rattle.bt_store.proofs.AdoptionMarks.{adopt_marks}
use Rattle.bt_store.proofs.law.adopt_marks_by_bytes.Goals as goal

pub returns : goal.returns
returns g c = adopt_marks g.H.NodeHash.digest
