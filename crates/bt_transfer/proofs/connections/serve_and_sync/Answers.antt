use Rattle.std.proofs.Common.{inl, ap, ◌∙◌}
use Rattle.bt_machine.specs.State.{EngineState}
use Rattle.bt_engine.specs.Leads.{both}
use Rattle.bt_files.specs.Ending.{IsEndFault}
use Rattle.bt_files.proofs.Faults.{call_ends, err_weaker, passed_on}
use Rattle.bt_files.proofs.Unlogged.{flush_fault_before}
use Rattle.bt_transfer.proofs.EndFaults.{of_fault}
use Rattle.bt_transfer.proofs.FailedServing.{fails_by_call, fails_by_flush, met_and_synced, not_told, on_ok}
use Rattle.bt_transfer.proofs.connections.serve_and_sync.Goals as goal

pub returns-in_err-kept-clause-run : goal.returns-in_err-kept-clause-run
returns-in_err-kept-clause-run g c =
    both _ _ _ c.serve_one-met.ensures.run c.finish-kept.ensures.run

pub returns-clause-run : goal.returns-clause-run
returns-clause-run g c =
    both _ _ _ c.serve_one-met.ensures.run c.finish-kept.ensures.run

pub returns-in_err-kept-clause-fault : goal.returns-in_err-kept-clause-fault
returns-in_err-kept-clause-fault g c =
    passed_on c.from_residual.result _ (IsEndFault c.args.engine.now.log) c.from_residual.ensures.1
    (inl (flush_fault_before _ _ c.serve_one-met.ensures.run _
    (of_fault c.finish-kept.result _ _ c.in_err-kept.was c.finish-kept.ensures.fault)))

pub returns-clause-fault : goal.returns-clause-fault
returns-clause-fault g c =
    err_weaker c.tell_met-told.result _ _ (call_ends c.args.engine.now.log)
    (not_told c.serve_one-met.result c.tell_met-told.result c.serve_one-met.ensures.fault c.tell_met-told.ensures.fault)

pub returns-in_err-kept-clause-kept : goal.returns-in_err-kept-clause-kept
returns-in_err-kept-clause-kept g c =
    passed_on c.from_residual.result _ _ c.from_residual.ensures.1
    (fails_by_flush c.serve_one-met.ensures.run (of_fault c.finish-kept.result _ _ c.in_err-kept.was c.finish-kept.ensures.failed))

pub returns-clause-kept : goal.returns-clause-kept
returns-clause-kept g c =
    err_weaker c.tell_met-told.result _ _
    (λ fault call. fails_by_call c.serve_one-met.ensures.run c.in_ok-kept.ensures.flushed call)
    (not_told c.serve_one-met.result c.tell_met-told.result c.serve_one-met.ensures.fault c.tell_met-told.ensures.fault)

pub returns-clause-served : goal.returns-clause-served
returns-clause-served g c =
    met_and_synced g.D.Disk.conduct g.H.NodeHash.digest c.args.engine.now c.serve_one-met.new.engine c.finish-kept.new.engine c.serve_one-met.result
    c.tell_met-told.result c.serve_one-met.ensures.served c.in_ok-kept.ensures.flushed c.tell_met-told.ensures.same

pub returns-clause-gone : goal.returns-clause-gone
returns-clause-gone g c = on_ok c.tell_met-told.result _ (ap (λ (s : EngineState). s.peers) c.finish-kept.ensures.same ∙ c.serve_one-met.ensures.gone)
