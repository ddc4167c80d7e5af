use Rattle.bt_engine.specs.Leads.{both}
use Rattle.bt_files.proofs.Faults.{err_weaker, on_ok_weaker}
use Rattle.bt_files.proofs.Unlogged.{end_fault_before}
use Rattle.bt_together.proofs.Swarms.{fails_at_end, fails_behind, swarm_refused, swarms_by_bytes}
use Rattle.bt_together.proofs.fetching.fetch_at_once.Goals as goal

pub returns-in-Err-clause-cause : goal.returns-in-Err-clause-cause
returns-in-Err-clause-cause g c =
    swarm_refused g.D.Disk.conduct g.H.NodeHash.digest c.args.engine.now c.run_swarm.new.engine c.in-Err.error c.flush_fault.result
    c.in-Err.ensures.refused c.flush_fault.ensures

pub returns-in-Err-clause-fault : goal.returns-in-Err-clause-fault
returns-in-Err-clause-fault g c =
    fails_at_end g.D.Disk.conduct g.H.NodeHash.digest c.args.engine.now c.flush_fault.result
    (swarm_refused g.D.Disk.conduct g.H.NodeHash.digest c.args.engine.now c.run_swarm.new.engine c.in-Err.error c.flush_fault.result
    c.in-Err.ensures.refused c.flush_fault.ensures)

pub returns-clause-fetched : goal.returns-clause-fetched
returns-clause-fetched g c =
    on_ok_weaker c.take_in.result _ _
    (λ taken_in. record {
      passed = c.run_swarm.ensures.swarm.passed;
      mid = c.run_swarm.new.engine;
      swarmed = swarms_by_bytes g.D.Disk.conduct g.H.NodeHash.digest _ _ _ _ _ c.args.engine.now c.run_swarm.ensures.swarm.passed
          c.run_swarm.new.engine c.run_swarm.ensures.swarm.swarmed;
      over = c.in_default.ensures.over;
      taken_in = taken_in;
    })
    c.take_in.ensures.taken_in

pub returns-clause-cause : goal.returns-clause-cause
returns-clause-cause g c =
    err_weaker c.take_in.result _ _
    (λ fault fails. fails_behind g.D.Disk.conduct g.H.NodeHash.digest c.args.engine.now c.run_swarm.new.engine fault c.run_swarm.ensures.run fails)
    c.take_in.ensures.cause

pub returns-clause-run : goal.returns-clause-run
returns-clause-run g c = both c.args.engine.now c.run_swarm.new.engine c.take_in.new.engine c.run_swarm.ensures.run c.take_in.ensures.run

pub returns-clause-fault : goal.returns-clause-fault
returns-clause-fault g c =
    err_weaker c.take_in.result _ _ (end_fault_before g.D.Disk.conduct g.H.NodeHash.digest c.run_swarm.ensures.run) c.take_in.ensures.fault
