use Rattle.bt_hashreq.proofs.RequestAnswers.{plans_teach}
use Rattle.bt_hashreq.proofs.law.plans_teach.Goals as goal

pub returns : goal.returns
returns g c = plans_teach g.H.NodeHash.digest
