use Rattle.std.proofs.Common.{ap}
use Rattle.bt_machine.specs.LogCalls.{EventCalls}
use Rattle.bt_machine.specs.declared.event.Event.TheVariants.{Connect}
use Rattle.bt_machine.specs.declared.event.Answer.TheVariants.{Connected}
use Rattle.bt_session.proofs.OnePeer.{connect_alone, refused_same}
use Rattle.bt_session.proofs.OwnSteps.{own_connect, log_stays}
use Rattle.bt_session.proofs.calls.connect.Goals as goal

pub returns-clause-step : goal.returns-clause-step
returns-clause-step g c = c.connect.ensures.step

pub returns-clause-stands : goal.returns-clause-stands
returns-clause-stands g c = c.connect.ensures.stands

pub returns-clause-alone : goal.returns-clause-alone
returns-clause-alone g c = connect_alone c.connect.result (own_connect g.H.NodeHash.digest c.connect.result c.connect.ensures.step.step) c.requires.empty

pub returns-clause-fit : goal.returns-clause-fit
returns-clause-fit g c =
    let laws = c.keeps_laws.ensures in
    c.events_send_what_fits.ensures.step c.args.engine.now.state.torrent c.args.engine.now.state c.connect.new.self.state Connect
    c.connect.ensures.step.calls (Connected c.connect.result) laws.lawful laws.shaped laws.sparse c.connect.ensures.step.step

pub returns-clause-kept : goal.returns-clause-kept
returns-clause-kept g c =
    let step = c.connect.ensures.step in
    refused_same c.connect.result (own_connect g.H.NodeHash.digest c.connect.result step.step) c.connect.ensures.devices
    (log_stays g.D.Disk.conduct c.args.engine.now.log c.connect.new.self.log step.calls.log step.logged
    (ap (λ (calls : EventCalls). calls.log) step.step.2))
