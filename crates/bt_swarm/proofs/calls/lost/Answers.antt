use Rattle.bt_session.proofs.OwnSteps.{own_lost}
use Rattle.bt_swarm.proofs.PeerKeys.{lost_keys, lost_away}
use Rattle.bt_swarm.proofs.calls.lost.Goals as goal

pub returns-clause-step : goal.returns-clause-step
returns-clause-step g c = record {
  step = c.lost.ensures.step;
  own = tt;
  keys = (lost_keys c.args.engine.now.state c.lost.new.self.state c.args.key c.lost.result (own_lost g.H.NodeHash.digest c.lost.result c.lost.ensures.step.step)).0;
}

pub returns-clause-away : goal.returns-clause-away
returns-clause-away g c =
    lost_away c.args.engine.now.state c.lost.new.self.state c.args.key c.lost.result c.keeps_laws.ensures.orderly (own_lost g.H.NodeHash.digest c.lost.result c.lost.ensures.step.step)

pub returns-clause-complete : goal.returns-clause-complete
returns-clause-complete g c =
    (lost_keys c.args.engine.now.state c.lost.new.self.state c.args.key c.lost.result (own_lost g.H.NodeHash.digest c.lost.result c.lost.ensures.step.step)).1
