use Rattle.std.proofs.Common.{refl, ap}
use Rattle.bt_machine.specs.declared.event.Event.TheVariants.{Adopt}
use Rattle.bt_machine.specs.declared.event.Answer.TheVariants.{Adopted}
use Rattle.bt_engine_state.specs.declared.parts.Parts.{Parts}
use Rattle.bt_engine.specs.Kept.{view_of}
use Rattle.bt_engine.proofs.Handled.{if_err}
use Rattle.bt_engine.proofs.Keeping.{steps_with, kept_after}
use Rattle.bt_engine.proofs.engine.Engine.adopt.Goals as goal

pub invariant_of-self : goal.invariant_of-self
invariant_of-self g c =
    let laws = c.steps_keep_laws.ensures in
    let step = c.adopt.ensures.step in
    kept_after g.D.Disk.conduct g.H.NodeHash.digest c.self.inside.parts c.adopt.new.parts (Adopt c.args.file) (Adopted c.adopt.result)
    laws.shaped laws.orderly laws.sparse laws.rooted laws.sound c.self.invariant (steps_with g.D.Disk.conduct g.H.NodeHash.digest c.self.inside.parts c.adopt.new.parts (Adopt c.args.file) (Adopted c.adopt.result)
    step.0 (c.adopt.result, refl, refl, step.2) step.1 c.adopt.ensures.rest.log)
    c.adopt.ensures.rest.torrent c.adopt.ensures.rest.tied

pub returns-clause-step : goal.returns-clause-step
returns-clause-step g c = (let step = c.adopt.ensures.step in rw (← c.self.view_is) (steps_with g.D.Disk.conduct g.H.NodeHash.digest c.self.inside.parts c.adopt.new.parts (Adopt c.args.file) (Adopted c.adopt.result)
    step.0 (c.adopt.result, refl, refl, step.2) step.1 c.adopt.ensures.rest.log))

pub returns-clause-stands : goal.returns-clause-stands
returns-clause-stands g c = rw (← c.self.view_is) (
    c.events_stand.ensures.steps (view_of c.self.inside.parts) (view_of c.adopt.new.parts) (Adopt c.args.file) (Adopted c.adopt.result) (λ e. absurd cc) c.self.invariant.sound
    (steps_with g.D.Disk.conduct g.H.NodeHash.digest c.self.inside.parts c.adopt.new.parts (Adopt c.args.file) (Adopted c.adopt.result)
    c.adopt.ensures.step.0 (c.adopt.result, refl, refl, c.adopt.ensures.step.2) c.adopt.ensures.step.1 c.adopt.ensures.rest.log))

pub returns-clause-refused : goal.returns-clause-refused
returns-clause-refused g c =
    rw (← c.self.view_is) (if_err _ _ c.adopt.result c.adopt.ensures.refused
    (λ error same other. ap (λ (p : Parts g.row.D.Denot g.row.H.Denot). view_of p) (same other)))

pub returns-clause-unknown : goal.returns-clause-unknown
returns-clause-unknown g c = rw (← c.self.view_is) c.adopt.ensures.unknown
