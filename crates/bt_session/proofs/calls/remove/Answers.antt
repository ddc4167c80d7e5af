use Rattle.bt_session.proofs.OnePeer.{lost_gone}
use Rattle.bt_session.proofs.OwnSteps.{own_lost}
use Rattle.bt_session.proofs.calls.remove.Goals as goal

pub returns-clause-step : goal.returns-clause-step
returns-clause-step g c = c.lost.ensures.step

pub returns-clause-gone : goal.returns-clause-gone
returns-clause-gone g c = lost_gone (own_lost g.H.NodeHash.digest c.lost.result c.lost.ensures.step.step) c.requires.no_other
