use Rattle.bt_session.proofs.OwnSteps.{own_flush}
use Rattle.bt_swarm.proofs.PeerKeys.{flush_keys}
use Rattle.bt_swarm.proofs.calls.flush.Goals as goal

pub returns-clause-step : goal.returns-clause-step
returns-clause-step g c = record {
  step = c.flush.ensures.step;
  own = tt;
  keys = (flush_keys c.args.engine.now.state c.flush.new.self.state c.flush.ensures.step.calls c.flush.result (own_flush g.H.NodeHash.digest c.flush.result c.flush.ensures.step.step)).0;
}

pub returns-clause-complete : goal.returns-clause-complete
returns-clause-complete g c =
    (flush_keys c.args.engine.now.state c.flush.new.self.state c.flush.ensures.step.calls c.flush.result (own_flush g.H.NodeHash.digest c.flush.result c.flush.ensures.step.step)).1
