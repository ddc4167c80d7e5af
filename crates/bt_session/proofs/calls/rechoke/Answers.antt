use Rattle.bt_machine.specs.declared.event.Event.TheVariants.{Rechoke}
use Rattle.bt_machine.specs.declared.event.Answer.TheVariants.{Rechoked}
use Rattle.bt_session.proofs.OnePeer.{rechoke_stays}
use Rattle.bt_session.proofs.OwnSteps.{own_rechoke}
use Rattle.bt_session.proofs.calls.rechoke.Goals as goal

pub returns-clause-step : goal.returns-clause-step
returns-clause-step g c = c.rechoke.ensures.step

pub returns-clause-alone : goal.returns-clause-alone
returns-clause-alone g c = rechoke_stays g.H.NodeHash.digest (own_rechoke g.H.NodeHash.digest c.rechoke.result c.rechoke.ensures.step.step) c.requires.alone

pub returns-clause-fit : goal.returns-clause-fit
returns-clause-fit g c =
    let laws = c.keeps_laws.ensures in
    c.events_send_what_fits.ensures.step c.args.engine.now.state.torrent c.args.engine.now.state c.rechoke.new.self.state Rechoke
    c.rechoke.ensures.step.calls (Rechoked c.rechoke.result) laws.lawful laws.shaped laws.sparse c.rechoke.ensures.step.step
