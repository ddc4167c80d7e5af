use Rattle.std.proofs.Common.{inl}
use Rattle.bt_engine.specs.Leads.{both}
use Rattle.bt_files.specs.Ending.{IsEndFault}
use Rattle.bt_files.proofs.Faults.{call_ends, err_weaker, passed_on}
use Rattle.bt_files.proofs.Unlogged.{flush_fault_before}
use Rattle.bt_transfer.proofs.FailedServing.{fails_by_call, fails_by_flush, on_ok}
use Rattle.bt_transfer.proofs.command.seed.serve_all.Goals as goal

pub returns-clause-served : goal.returns-clause-served
returns-clause-served g c = on_ok c.hear.result _ (record {
  mid = c.serve_as_said.new.engine;
  served = c.in_ok-serve_as_said.ensures.served;
  synced = c.in_ok-finish.ensures.flushed;
})

pub returns-in_err-finish-clause-run : goal.returns-in_err-finish-clause-run
returns-in_err-finish-clause-run g c =
    both _ _ _ c.serve_as_said.ensures.run c.finish.ensures.run

pub returns-clause-run : goal.returns-clause-run
returns-clause-run g c =
    both _ _ _ c.serve_as_said.ensures.run c.finish.ensures.run

pub returns-in_err-finish-clause-fault : goal.returns-in_err-finish-clause-fault
returns-in_err-finish-clause-fault g c =
    passed_on c.from_residual-in_err-finish.result _ (IsEndFault c.args.engine.now.log) c.from_residual-in_err-finish.ensures.1
    (inl (flush_fault_before _ _ c.serve_as_said.ensures.run _ c.in_err-finish.ensures.fault))

pub returns-clause-fault : goal.returns-clause-fault
returns-clause-fault g c =
    err_weaker c.hear.result _ _ (λ fault rang. call_ends c.args.engine.now.log fault (inl rang.0)) c.hear.ensures.fault

pub returns-in_err-finish-clause-kept : goal.returns-in_err-finish-clause-kept
returns-in_err-finish-clause-kept g c =
    passed_on c.from_residual-in_err-finish.result _ _ c.from_residual-in_err-finish.ensures.1
    (inl (fails_by_flush c.serve_as_said.ensures.run c.in_err-finish.ensures.failed))

pub returns-clause-kept : goal.returns-clause-kept
returns-clause-kept g c =
    err_weaker c.hear.result _ _ (λ fault rang. inl (fails_by_call c.serve_as_said.ensures.run c.in_ok-finish.ensures.flushed (inl rang.0)))
    c.hear.ensures.fault
