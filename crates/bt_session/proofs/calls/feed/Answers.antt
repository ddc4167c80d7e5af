use Rattle.bt_session.proofs.OnePeer.{feed_stays, feed_error}
use Rattle.bt_session.proofs.OwnSteps.{own_feed}
use Rattle.bt_session.proofs.calls.feed.Goals as goal

pub returns-clause-step : goal.returns-clause-step
returns-clause-step g c = c.feed_buffer.ensures.step

pub returns-clause-alone : goal.returns-clause-alone
returns-clause-alone g c = feed_stays (own_feed g.H.NodeHash.digest c.feed_buffer.result c.feed_buffer.ensures.step.step) c.requires.alone

pub returns-clause-refused : goal.returns-clause-refused
returns-clause-refused g c = feed_error c.feed_buffer.result (own_feed g.H.NodeHash.digest c.feed_buffer.result c.feed_buffer.ensures.step.step) c.requires.alone
