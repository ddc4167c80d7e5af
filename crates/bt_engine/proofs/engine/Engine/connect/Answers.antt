use Rattle.std.proofs.Common.{Option, option_map, refl, ap}
use Rattle.bt_machine.specs.declared.event.Event.TheVariants.{Connect}
use Rattle.bt_machine.specs.declared.event.Answer.TheVariants.{Connected}
use Rattle.bt_engine_state.specs.declared.open_log.OpenLog.{OpenLog}
use Rattle.bt_engine.specs.Kept.{view_of}
use Rattle.bt_engine.proofs.Keeping.{steps_without, kept_after}
use Rattle.bt_engine.proofs.engine.Engine.connect.Goals as goal

pub invariant_of-self : goal.invariant_of-self
invariant_of-self g c =
    let laws = c.steps_keep_laws.ensures in
    kept_after g.D.Disk.conduct g.H.NodeHash.digest c.self.inside.parts c.connect.new.parts Connect (Connected c.connect.result)
    laws.shaped laws.orderly laws.sparse laws.rooted laws.sound c.self.invariant
    (steps_without g.D.Disk.conduct g.H.NodeHash.digest c.self.inside.parts c.connect.new.parts Connect (Connected c.connect.result)
    (c.connect.result, refl, refl, c.connect.ensures.step) c.connect.ensures.rest.devices
    (ap (λ (log : Option (OpenLog g.row.D.Denot)). option_map (λ opened. opened.log) log) c.connect.ensures.rest.log))
    c.connect.ensures.rest.torrent c.connect.ensures.rest.tied

pub returns-clause-step : goal.returns-clause-step
returns-clause-step g c = rw (← c.self.view_is) (
    steps_without g.D.Disk.conduct g.H.NodeHash.digest c.self.inside.parts c.connect.new.parts Connect (Connected c.connect.result)
    (c.connect.result, refl, refl, c.connect.ensures.step) c.connect.ensures.rest.devices
    (ap (λ (log : Option (OpenLog g.row.D.Denot)). option_map (λ opened. opened.log) log) c.connect.ensures.rest.log))

pub returns-clause-stands : goal.returns-clause-stands
returns-clause-stands g c = rw (← c.self.view_is) (
    c.events_stand.ensures.steps (view_of c.self.inside.parts) (view_of c.connect.new.parts) Connect (Connected c.connect.result) (λ e. absurd cc) c.self.invariant.sound
    (steps_without g.D.Disk.conduct g.H.NodeHash.digest c.self.inside.parts c.connect.new.parts Connect (Connected c.connect.result)
    (c.connect.result, refl, refl, c.connect.ensures.step) c.connect.ensures.rest.devices
    (ap (λ (log : Option (OpenLog g.row.D.Denot)). option_map (λ opened. opened.log) log) c.connect.ensures.rest.log)))
