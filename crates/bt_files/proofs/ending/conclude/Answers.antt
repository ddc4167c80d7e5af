use Rattle.std.proofs.Common.{inl, Ok, Err, rules}
use Rattle.bt_files.specs.Ending.{IsEndFault}
use Rattle.bt_files.proofs.Faults.{call_ends, passed_on}
use Rattle.bt_files.proofs.ending.conclude.Goals as goal

pub returns-then-complete-clause-concluded : goal.returns-then-complete-clause-concluded
returns-then-complete-clause-concluded g c = search rules

pub returns-else-complete-clause-concluded : goal.returns-else-complete-clause-concluded
returns-else-complete-clause-concluded g c = search rules

pub returns-in_err-finish-clause-fault : goal.returns-in_err-finish-clause-fault
returns-in_err-finish-clause-fault g c =
    passed_on c.from_residual.result c.in_err-finish.field-0.0 (IsEndFault c.args.engine.now.log) c.from_residual.ensures.1
    (inl c.in_err-finish.ensures.fault)

pub returns-in_err-complete-clause-fault : goal.returns-in_err-complete-clause-fault
returns-in_err-complete-clause-fault g c =
    passed_on c.from_residual-in_err-complete.result c.in_err-complete.field-0.0 (IsEndFault c.args.engine.now.log) c.from_residual-in_err-complete.ensures.1
    (call_ends c.args.engine.now.log c.in_err-complete.field-0.0 c.in_err-complete.ensures.fault)

pub returns-in_err-finish-clause-failed : goal.returns-in_err-finish-clause-failed
returns-in_err-finish-clause-failed g c =
    let refused = c.in_err-finish.ensures.failed in
    passed_on c.from_residual.result _ _ c.from_residual.ensures.1 (record { answer = Err refused.0; flushed = refused.2; told = refused.1 })

pub returns-in_err-complete-clause-failed : goal.returns-in_err-complete-clause-failed
returns-in_err-complete-clause-failed g c =
    passed_on c.from_residual-in_err-complete.result _ _ c.from_residual-in_err-complete.ensures.1
    (record { answer = Ok tt; flushed = c.in_ok-finish.ensures.flushed; told = c.in_err-complete.ensures.fault })
