use Rattle.std.proofs.Common.{Some, None, refl, sym, subst}
use Rattle.bt_log_file.proofs.LogFaults.{log_fault_alone}
use Rattle.bt_files.specs.StoreLog.{IsLogAt, IsLogFaultAt}
use Rattle.bt_files.proofs.Faults.{passed_on}
use Rattle.bt_files.proofs.store_log.open_log_at.Goals as goal

pub returns-in_ok-opened-in-Some-clause-log : goal.returns-in_ok-opened-in-Some-clause-log
returns-in_ok-opened-in-Some-clause-log g c =
    subst (λ log. IsLogAt c.args.known.now c.args.torrent.now log c.open_or_hint.new.known (Some c.in_ok-opened-in-Some.opened)) (sym c.in-Some.is)
    c.in_ok-opened-in-Some.ensures.log

pub returns-in_err-opened-in-Some-clause-fault : goal.returns-in_err-opened-in-Some-clause-fault
returns-in_err-opened-in-Some-clause-fault g c =
    passed_on c.from_residual.result c.in_err-opened-in-Some.field-0.0 (IsLogFaultAt c.args.known.now c.args.torrent.now c.args.log) c.from_residual.ensures.1
    (subst (λ log. IsLogFaultAt c.args.known.now c.args.torrent.now log c.in_err-opened-in-Some.field-0.0) (sym c.in-Some.is)
    (log_fault_alone _ _ _ _ c.args.known.now c.args.torrent.now c.in-Some.path.now _ c.in_err-opened-in-Some.ensures.fault))

pub returns-in-None-clause-log : goal.returns-in-None-clause-log
returns-in-None-clause-log g c =
    subst (λ log. IsLogAt c.args.known.now c.args.torrent.now log c.args.known.now None) (sym c.in-None.is) refl
