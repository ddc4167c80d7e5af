use Rattle.bt_machine.specs.declared.event.Event.TheVariants.{Next}
use Rattle.bt_machine.specs.declared.event.Answer.TheVariants.{Stepped}
use Rattle.bt_session.proofs.OwnSteps.{own_next}
use Rattle.bt_swarm.proofs.PeerKeys.{next_keys}
use Rattle.bt_swarm.proofs.calls.next.Goals as goal

pub returns-clause-step : goal.returns-clause-step
returns-clause-step g c = record {
  step = c.next.ensures.step;
  own = tt;
  keys = next_keys g.H.NodeHash.digest c.args.engine.now.state c.next.new.self.state c.args.key c.next.ensures.step.calls.devices c.next.result c.keeps_laws.ensures.orderly
      (own_next g.H.NodeHash.digest c.next.result c.next.ensures.step.step);
}

pub returns-clause-fit : goal.returns-clause-fit
returns-clause-fit g c =
    let laws = c.keeps_laws.ensures in
    c.events_send_what_fits.ensures.step c.args.engine.now.state.torrent c.args.engine.now.state c.next.new.self.state (Next c.args.key)
    c.next.ensures.step.calls (Stepped c.next.result) laws.lawful laws.shaped laws.sparse c.next.ensures.step.step
