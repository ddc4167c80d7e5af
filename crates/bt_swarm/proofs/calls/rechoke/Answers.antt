use Rattle.bt_machine.specs.declared.event.Event.TheVariants.{Rechoke}
use Rattle.bt_machine.specs.declared.event.Answer.TheVariants.{Rechoked}
use Rattle.bt_session.proofs.OwnSteps.{own_rechoke}
use Rattle.bt_swarm.proofs.PeerKeys.{rechoke_keys}
use Rattle.bt_swarm.proofs.calls.rechoke.Goals as goal

pub returns-clause-step : goal.returns-clause-step
returns-clause-step g c = record {
  step = c.rechoke.ensures.step;
  own = tt;
  keys = rechoke_keys g.H.NodeHash.digest c.args.engine.now.state c.rechoke.new.self.state c.rechoke.result (own_rechoke g.H.NodeHash.digest c.rechoke.result c.rechoke.ensures.step.step);
}

pub returns-clause-fit : goal.returns-clause-fit
returns-clause-fit g c =
    let laws = c.keeps_laws.ensures in
    c.events_send_what_fits.ensures.step c.args.engine.now.state.torrent c.args.engine.now.state c.rechoke.new.self.state Rechoke
    c.rechoke.ensures.step.calls (Rechoked c.rechoke.result) laws.lawful laws.shaped laws.sparse c.rechoke.ensures.step.step
