use Rattle.bt_engine_state.proofs.Lists.{get_read}
use Rattle.bt_engine.proofs.Handled.{lost_at}
use Rattle.bt_engine.proofs.event.drop_peer.Goals as goal

pub returns-clause-gone : goal.returns-clause-gone
returns-clause-gone g c =
    lost_at c.args.parts.now c.args.index c.requires.tied (get_read c.args.parts.now.peers.items c.args.index c.index.result.now c.requires.there c.index.ensures) c.lost.ensures.step
