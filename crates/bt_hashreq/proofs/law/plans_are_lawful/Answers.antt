use Rattle.bt_hashreq.proofs.RequestShape.{plans_are_lawful}
use Rattle.bt_hashreq.proofs.law.plans_are_lawful.Goals as goal

pub returns : goal.returns
returns c = plans_are_lawful
