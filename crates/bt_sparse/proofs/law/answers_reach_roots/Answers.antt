use Rattle.bt_sparse.proofs.Taken.{answers_reach_roots}
use Rattle.bt_sparse.proofs.law.answers_reach_roots.Goals as goal

pub returns : goal.returns
returns g c = answers_reach_roots g.H.NodeHash.digest
