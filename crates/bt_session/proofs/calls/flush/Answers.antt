use Rattle.bt_session.proofs.OnePeer.{flush_stays}
use Rattle.bt_session.proofs.OwnSteps.{own_flush}
use Rattle.bt_session.proofs.calls.flush.Goals as goal

pub returns-clause-step : goal.returns-clause-step
returns-clause-step g c = c.flush.ensures.step

pub returns-clause-alone : goal.returns-clause-alone
returns-clause-alone g c = flush_stays (own_flush g.H.NodeHash.digest c.flush.result c.flush.ensures.step.step) c.requires.alone
