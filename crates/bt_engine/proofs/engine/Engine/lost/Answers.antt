use Rattle.std.proofs.Common.{Option, option_map, refl, ap}
use Rattle.bt_machine.specs.declared.event.Event.TheVariants.{Lost}
use Rattle.bt_machine.specs.declared.event.Answer.TheVariants.{Lost as LostAnswer}
use Rattle.bt_engine_state.specs.declared.open_log.OpenLog.{OpenLog}
use Rattle.bt_engine.specs.Kept.{view_of}
use Rattle.bt_engine.proofs.Keeping.{steps_without, kept_after}
use Rattle.bt_engine.proofs.engine.Engine.lost.Goals as goal

pub invariant_of-self : goal.invariant_of-self
invariant_of-self g c =
    let laws = c.steps_keep_laws.ensures in
    kept_after g.D.Disk.conduct g.H.NodeHash.digest c.self.inside.parts c.lost.new.parts (Lost c.args.peer) (LostAnswer c.lost.result)
    laws.shaped laws.orderly laws.sparse laws.rooted laws.sound c.self.invariant
    (steps_without g.D.Disk.conduct g.H.NodeHash.digest c.self.inside.parts c.lost.new.parts (Lost c.args.peer) (LostAnswer c.lost.result)
    (c.lost.result, refl, refl, c.lost.ensures.step) c.lost.ensures.rest.devices
    (ap (λ (log : Option (OpenLog g.row.D.Denot)). option_map (λ opened. opened.log) log) c.lost.ensures.rest.log))
    c.lost.ensures.rest.torrent c.lost.ensures.rest.tied

pub returns-clause-step : goal.returns-clause-step
returns-clause-step g c = rw (← c.self.view_is) (
    steps_without g.D.Disk.conduct g.H.NodeHash.digest c.self.inside.parts c.lost.new.parts (Lost c.args.peer) (LostAnswer c.lost.result)
    (c.lost.result, refl, refl, c.lost.ensures.step) c.lost.ensures.rest.devices
    (ap (λ (log : Option (OpenLog g.row.D.Denot)). option_map (λ opened. opened.log) log) c.lost.ensures.rest.log))

pub returns-clause-stands : goal.returns-clause-stands
returns-clause-stands g c = rw (← c.self.view_is) (
    c.events_stand.ensures.steps (view_of c.self.inside.parts) (view_of c.lost.new.parts) (Lost c.args.peer) (LostAnswer c.lost.result) (λ e. absurd cc) c.self.invariant.sound
    (steps_without g.D.Disk.conduct g.H.NodeHash.digest c.self.inside.parts c.lost.new.parts (Lost c.args.peer) (LostAnswer c.lost.result)
    (c.lost.result, refl, refl, c.lost.ensures.step) c.lost.ensures.rest.devices
    (ap (λ (log : Option (OpenLog g.row.D.Denot)). option_map (λ opened. opened.log) log) c.lost.ensures.rest.log)))
