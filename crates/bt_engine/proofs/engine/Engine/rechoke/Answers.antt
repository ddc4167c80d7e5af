use Rattle.std.proofs.Common.{Option, option_map, refl, ap}
use Rattle.bt_machine.specs.declared.event.Event.TheVariants.{Rechoke}
use Rattle.bt_machine.specs.declared.event.Answer.TheVariants.{Rechoked}
use Rattle.bt_engine_state.specs.declared.open_log.OpenLog.{OpenLog}
use Rattle.bt_engine.specs.Kept.{view_of}
use Rattle.bt_engine.proofs.Keeping.{steps_without, kept_after}
use Rattle.bt_engine.proofs.engine.Engine.rechoke.Goals as goal

pub invariant_of-self : goal.invariant_of-self
invariant_of-self g c =
    let laws = c.steps_keep_laws.ensures in
    kept_after g.D.Disk.conduct g.H.NodeHash.digest c.self.inside.parts c.rechoke.new.parts Rechoke (Rechoked c.rechoke.result)
    laws.shaped laws.orderly laws.sparse laws.rooted laws.sound c.self.invariant
    (steps_without g.D.Disk.conduct g.H.NodeHash.digest c.self.inside.parts c.rechoke.new.parts Rechoke (Rechoked c.rechoke.result)
    (c.rechoke.result, refl, refl, c.rechoke.ensures.step) c.rechoke.ensures.rest.devices
    (ap (λ (log : Option (OpenLog g.row.D.Denot)). option_map (λ opened. opened.log) log) c.rechoke.ensures.rest.log))
    c.rechoke.ensures.rest.torrent c.rechoke.ensures.rest.tied

pub returns-clause-step : goal.returns-clause-step
returns-clause-step g c = rw (← c.self.view_is) (
    steps_without g.D.Disk.conduct g.H.NodeHash.digest c.self.inside.parts c.rechoke.new.parts Rechoke (Rechoked c.rechoke.result)
    (c.rechoke.result, refl, refl, c.rechoke.ensures.step) c.rechoke.ensures.rest.devices
    (ap (λ (log : Option (OpenLog g.row.D.Denot)). option_map (λ opened. opened.log) log) c.rechoke.ensures.rest.log))

pub returns-clause-stands : goal.returns-clause-stands
returns-clause-stands g c = rw (← c.self.view_is) (
    c.events_stand.ensures.steps (view_of c.self.inside.parts) (view_of c.rechoke.new.parts) Rechoke (Rechoked c.rechoke.result) (λ e. absurd cc) c.self.invariant.sound
    (steps_without g.D.Disk.conduct g.H.NodeHash.digest c.self.inside.parts c.rechoke.new.parts Rechoke (Rechoked c.rechoke.result)
    (c.rechoke.result, refl, refl, c.rechoke.ensures.step) c.rechoke.ensures.rest.devices
    (ap (λ (log : Option (OpenLog g.row.D.Denot)). option_map (λ opened. opened.log) log) c.rechoke.ensures.rest.log)))
