use Rattle.std.proofs.Common.{rules, ◌∙◌}
use Rattle.bt_engine.specs.Leads.{both}
use Rattle.bt_files.proofs.Faults.{err_weaker}
use Rattle.bt_files.proofs.Unlogged.{end_fault_before}
use Rattle.bt_together.proofs.Swarms.{fails_at_end, fails_behind, served_together, swarm_refused, swarms_by_bytes}
use Rattle.bt_together.proofs.serving.serve_together.Goals as goal

pub returns-in-Err-clause-cause : goal.returns-in-Err-clause-cause
returns-in-Err-clause-cause g c =
    swarm_refused g.D.Disk.conduct g.H.NodeHash.digest c.args.engine.now c.run_swarm.new.engine c.in-Err.error c.flush_fault.result
    c.in-Err.ensures.refused c.flush_fault.ensures

pub returns-in-Err-clause-fault : goal.returns-in-Err-clause-fault
returns-in-Err-clause-fault g c =
    fails_at_end g.D.Disk.conduct g.H.NodeHash.digest c.args.engine.now c.flush_fault.result
    (swarm_refused g.D.Disk.conduct g.H.NodeHash.digest c.args.engine.now c.run_swarm.new.engine c.in-Err.error c.flush_fault.result
    c.in-Err.ensures.refused c.flush_fault.ensures)

pub returns-clause-cause : goal.returns-clause-cause
returns-clause-cause g c =
    err_weaker c.sync_behind.result _ _
    (λ fault fails. fails_behind g.D.Disk.conduct g.H.NodeHash.digest c.args.engine.now c.run_swarm.new.engine fault c.run_swarm.ensures.run fails)
    c.sync_behind.ensures.cause

pub returns-clause-run : goal.returns-clause-run
returns-clause-run g c = both c.args.engine.now c.run_swarm.new.engine c.sync_behind.new.engine c.run_swarm.ensures.run c.sync_behind.ensures.run

pub returns-clause-fault : goal.returns-clause-fault
returns-clause-fault g c =
    err_weaker c.sync_behind.result _ _ (end_fault_before g.D.Disk.conduct g.H.NodeHash.digest c.run_swarm.ensures.run) c.sync_behind.ensures.fault

pub returns-clause-served : goal.returns-clause-served
returns-clause-served g c =
    let swarm = c.run_swarm.ensures.swarm in
    served_together g.D.Disk.conduct g.H.NodeHash.digest g.W.Write.contents c.args.engine.now c.run_swarm.new.engine c.sync_behind.new.engine
    c.args.count c.run_swarm.new.gate.most c.args.writer.now c.new-numbered.result.writer.now c.run_swarm.new.gate.writer.now _
    c.new-numbered.result.seating c.run_swarm.new.gate.seating c.new-numbered.result.written c.run_swarm.new.gate.written swarm.passed
    (swarms_by_bytes g.D.Disk.conduct g.H.NodeHash.digest _ _ _ _ _ c.args.engine.now swarm.passed c.run_swarm.new.engine swarm.swarmed)
    c.new-numbered.ensures.same_text (search rules) c.new-numbered.ensures.nobody (swarm.led.1 ∙ c.new-numbered.ensures.most) swarm.led.2
    c.outcome-told.result c.sync_behind.result c.outcome-told.ensures.written c.outcome-told.ensures.came c.outcome-told.ensures.there
    c.sync_behind.ensures.before c.sync_behind.ensures.synced
