use Rattle.bt_sparse.proofs.Values.{root_sound}
use Rattle.bt_sparse.proofs.law.roots_are_sound.Goals as goal

pub returns : goal.returns
returns g c = root_sound g.H.NodeHash.digest
