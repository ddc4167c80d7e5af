use Rattle.std.proofs.Common.{refl}
use Rattle.bt_machine.specs.declared.event.Event.TheVariants.{Next}
use Rattle.bt_machine.specs.declared.event.Answer.TheVariants.{Stepped}
use Rattle.bt_engine.specs.Kept.{view_of}
use Rattle.bt_engine.proofs.Keeping.{steps_with, kept_after}
use Rattle.bt_engine.proofs.engine.Engine.next.Goals as goal

pub invariant_of-self : goal.invariant_of-self
invariant_of-self g c =
    let laws = c.steps_keep_laws.ensures in
    let step = c.next.ensures.step in
    kept_after g.D.Disk.conduct g.H.NodeHash.digest c.self.inside.parts c.next.new.parts (Next c.args.peer) (Stepped c.next.result)
    laws.shaped laws.orderly laws.sparse laws.rooted laws.sound c.self.invariant (steps_with g.D.Disk.conduct g.H.NodeHash.digest c.self.inside.parts c.next.new.parts (Next c.args.peer) (Stepped c.next.result)
    step.0 (c.next.result, refl, refl, step.2) step.1 c.next.ensures.rest.log)
    c.next.ensures.rest.torrent c.next.ensures.rest.tied

pub returns-clause-step : goal.returns-clause-step
returns-clause-step g c = (let step = c.next.ensures.step in rw (← c.self.view_is) (steps_with g.D.Disk.conduct g.H.NodeHash.digest c.self.inside.parts c.next.new.parts (Next c.args.peer) (Stepped c.next.result)
    step.0 (c.next.result, refl, refl, step.2) step.1 c.next.ensures.rest.log))

pub returns-clause-stands : goal.returns-clause-stands
returns-clause-stands g c = rw (← c.self.view_is) (
    c.events_stand.ensures.steps (view_of c.self.inside.parts) (view_of c.next.new.parts) (Next c.args.peer) (Stepped c.next.result) (λ e. absurd cc) c.self.invariant.sound
    (steps_with g.D.Disk.conduct g.H.NodeHash.digest c.self.inside.parts c.next.new.parts (Next c.args.peer) (Stepped c.next.result)
    c.next.ensures.step.0 (c.next.result, refl, refl, c.next.ensures.step.2) c.next.ensures.step.1 c.next.ensures.rest.log))

pub returns-clause-devices : goal.returns-clause-devices
returns-clause-devices g c = rw (← c.self.view_is) c.next.ensures.devices
