use Rattle.bt_store.proofs.AdoptionMarks.{adopt_extends}
use Rattle.bt_store.proofs.law.adopt_extends.Goals as goal

pub returns : goal.returns
returns g c = adopt_extends g.H.NodeHash.digest
