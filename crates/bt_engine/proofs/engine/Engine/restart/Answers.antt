use Rattle.std.proofs.Common.{refl, ap}
use Rattle.bt_machine.specs.declared.event.Event.TheVariants.{Restart}
use Rattle.bt_machine.specs.declared.event.Answer.TheVariants.{Restarted}
use Rattle.bt_engine_state.specs.Parts.{disks_of}
use Rattle.bt_engine_state.specs.declared.parts.Parts.{Parts}
use Rattle.bt_engine.specs.Kept.{view_of}
use Rattle.bt_engine.proofs.Handled.{if_err}
use Rattle.bt_engine.proofs.Keeping.{kept_after}
use Rattle.bt_engine.proofs.Reopenings.{restarted_backed}
use Rattle.bt_engine.proofs.engine.Engine.restart.Goals as goal

pub invariant_of-self : goal.invariant_of-self
invariant_of-self g c =
    let laws = c.steps_keep_laws.ensures in
    let step = c.restart.ensures.step in
    kept_after g.D.Disk.conduct g.H.NodeHash.digest c.self.inside.parts c.restart.new.parts Restart (Restarted c.restart.result)
    laws.shaped laws.orderly laws.sparse laws.rooted laws.sound c.self.invariant
    (record { calls = step.calls; step = (c.restart.result, refl, step.step); made = step.devices; logged = step.log })
    c.restart.ensures.torrent c.restart.ensures.tied

pub returns : goal.returns
returns g c = let step = c.restart.ensures.step in record {
  step = rw (← c.self.view_is) (record { calls = step.calls; step = (c.restart.result, refl, step.step); made = step.devices; logged = step.log });
  backed = restarted_backed g.D.Disk.conduct g.H.NodeHash.digest c.logs_back_engines.ensures.restarts (view_of c.self.inside.parts)
      (view_of c.restart.new.parts) c.goes_by_log.ensures c.restart.result
      (record { calls = step.calls; step = (c.restart.result, refl, step.step); made = step.devices; logged = step.log });
  devices = rw (← c.self.view_is) (if_err _ _ c.restart.result c.restart.ensures.refused (λ error same. ap (λ (p : Parts g.row.D.Denot g.row.H.Denot). disks_of p) same));
}

pub restart-requires-clause-digest : goal.restart-requires-clause-digest
restart-requires-clause-digest g c = c.self.invariant.digest
