use Rattle.bt_session.proofs.OwnSteps.{own_feed}
use Rattle.bt_swarm.proofs.PeerKeys.{feed_keys}
use Rattle.bt_swarm.proofs.calls.feed.Goals as goal

pub returns : goal.returns
returns g c = record {
  step = record {
    step = c.feed.ensures.step;
    own = tt;
    keys = feed_keys c.args.engine.now.state c.feed.new.self.state c.args.key c.args.bytes.now c.feed.result (own_feed g.H.NodeHash.digest c.feed.result c.feed.ensures.step.step);
  };
}
