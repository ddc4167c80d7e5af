use Rattle.bt_machine.specs.declared.event.Event.TheVariants.{Connect}
use Rattle.bt_machine.specs.declared.event.Answer.TheVariants.{Connected}
use Rattle.bt_session.proofs.OwnSteps.{own_connect}
use Rattle.bt_swarm.proofs.PeerKeys.{connect_keys}
use Rattle.bt_swarm.proofs.calls.connect.Goals as goal

pub returns-clause-step : goal.returns-clause-step
returns-clause-step g c = record {
  step = c.connect.ensures.step;
  own = tt;
  keys = connect_keys c.args.engine.now.state c.connect.new.self.state c.connect.result (own_connect g.H.NodeHash.digest c.connect.result c.connect.ensures.step.step);
}

pub returns-clause-fit : goal.returns-clause-fit
returns-clause-fit g c =
    let laws = c.keeps_laws.ensures in
    c.events_send_what_fits.ensures.step c.args.engine.now.state.torrent c.args.engine.now.state c.connect.new.self.state Connect
    c.connect.ensures.step.calls (Connected c.connect.result) laws.lawful laws.shaped laws.sparse c.connect.ensures.step.step
