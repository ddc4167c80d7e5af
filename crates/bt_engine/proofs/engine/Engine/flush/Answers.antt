use Rattle.std.proofs.Common.{refl}
use Rattle.bt_machine.specs.declared.event.Event.TheVariants.{Flush}
use Rattle.bt_machine.specs.declared.event.Answer.TheVariants.{Flushed}
use Rattle.bt_engine.specs.Kept.{view_of}
use Rattle.bt_engine.proofs.StandingRuns.{blocks_kept, hints_kept}
use Rattle.bt_engine.proofs.Keeping.{kept_after}
use Rattle.bt_engine.proofs.engine.Engine.flush.Goals as goal

pub invariant_of-self : goal.invariant_of-self
invariant_of-self g c =
    let laws = c.steps_keep_laws.ensures in
    let step = c.flush.ensures.step in
    kept_after g.D.Disk.conduct g.H.NodeHash.digest c.self.inside.parts c.flush.new.parts Flush (Flushed c.flush.result)
    laws.shaped laws.orderly laws.sparse laws.rooted laws.sound c.self.invariant
    (record { calls = step.0; step = (c.flush.result, refl, step.3); made = step.1; logged = step.2 })
    c.flush.ensures.torrent c.flush.ensures.tied

pub returns-clause-step : goal.returns-clause-step
returns-clause-step g c = (let step = c.flush.ensures.step in
    rw (← c.self.view_is) (record { calls = step.0; step = (c.flush.result, refl, step.3); made = step.1; logged = step.2 }))

pub returns-clause-stands : goal.returns-clause-stands
returns-clause-stands g c = rw (← c.self.view_is) (
    c.events_stand.ensures.steps (view_of c.self.inside.parts) (view_of c.flush.new.parts) Flush (Flushed c.flush.result) (λ e. absurd cc) c.self.invariant.sound
    (record { calls = c.flush.ensures.step.0; step = (c.flush.result, refl, c.flush.ensures.step.3); made = c.flush.ensures.step.1; logged = c.flush.ensures.step.2 }))

pub returns-clause-blocks : goal.returns-clause-blocks
returns-clause-blocks g c = blocks_kept {dig = g.H.NodeHash.digest} {old = view_of c.self.inside.parts} {new = view_of c.flush.new.parts} c.flush_keeps_blocks.ensures c.flush.result
    (record { calls = c.flush.ensures.step.0; step = (c.flush.result, refl, c.flush.ensures.step.3); made = c.flush.ensures.step.1; logged = c.flush.ensures.step.2 })

pub returns-clause-hints : goal.returns-clause-hints
returns-clause-hints g c = rw (← c.self.view_is) (hints_kept {old = view_of c.self.inside.parts} {new = view_of c.flush.new.parts} c.logs_stand.ensures.kept c.flush.result
    (record { calls = c.flush.ensures.step.0; step = (c.flush.result, refl, c.flush.ensures.step.3); made = c.flush.ensures.step.1; logged = c.flush.ensures.step.2 }))
