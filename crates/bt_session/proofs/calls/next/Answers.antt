use Rattle.bt_machine.specs.declared.event.Event.TheVariants.{Next}
use Rattle.bt_machine.specs.declared.event.Answer.TheVariants.{Stepped}
use Rattle.bt_session.proofs.OnePeer.{next_leaves}
use Rattle.bt_session.proofs.OwnSteps.{own_next}
use Rattle.bt_session.proofs.calls.next.Goals as goal

pub returns-clause-step : goal.returns-clause-step
returns-clause-step g c = c.next.ensures.step

pub returns-clause-leaves : goal.returns-clause-leaves
returns-clause-leaves g c = next_leaves g.H.NodeHash.digest c.next.result (own_next g.H.NodeHash.digest c.next.result c.next.ensures.step.step) c.requires.alone

pub returns-clause-fit : goal.returns-clause-fit
returns-clause-fit g c =
    let laws = c.keeps_laws.ensures in
    c.events_send_what_fits.ensures.step c.args.engine.now.state.torrent c.args.engine.now.state c.next.new.self.state (Next c.args.key)
    c.next.ensures.step.calls (Stepped c.next.result) laws.lawful laws.shaped laws.sparse c.next.ensures.step.step
