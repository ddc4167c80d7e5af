use Rattle.std.proofs.Common.{◌≡◌, Ok, Err, IfErr, is_some, refl, subst, sym}
use Rattle.std.specs.Prelude.{OnOk}
use Rattle.bt_engine.specs.Leads.{none}
use Rattle.bt_files.specs.Store.{flush_fault}
use Rattle.bt_files.proofs.Faults.{err_weaker}
use Rattle.bt_machine.specs.declared.error.FlushError.{FlushError}
use Rattle.bt_session.specs.Peer.{IsFlushedWhere}
use Rattle.bt_transfer.proofs.FullLogs.{refused_full}
use Rattle.bt_transfer.proofs.command.fetch.flush_first.Goals as goal

pub returns-in-Some-clause-flushed : goal.returns-in-Some-clause-flushed
returns-in-Some-clause-flushed g c =
    subst (λ log. OnOk c.finish.result
    (IsFlushedWhere g.D.Disk.conduct g.H.NodeHash.digest (is_some log) c.args.engine.now (Ok tt) c.finish.new.engine)) (sym c.in-Some.is)
    c.finish.ensures.flushed

pub returns-in-Some-clause-failed : goal.returns-in-Some-clause-failed
returns-in-Some-clause-failed g c =
    subst (λ log. IfErr c.finish.result (λ fault. (error : FlushError) × (fault ≡ flush_fault error)
    × IsFlushedWhere g.D.Disk.conduct g.H.NodeHash.digest (is_some log) c.args.engine.now (Err error) c.finish.new.engine)) (sym c.in-Some.is)
    c.finish.ensures.failed

pub returns-in-Some-clause-full : goal.returns-in-Some-clause-full
returns-in-Some-clause-full g c =
    err_weaker c.finish.result _ _ (λ fault refused. refused_full (none c.args.engine.now) refused.2 refused.1) c.finish.ensures.failed

pub returns-in-None-clause-flushed : goal.returns-in-None-clause-flushed
returns-in-None-clause-flushed g c =
    subst (λ log. IsFlushedWhere g.D.Disk.conduct g.H.NodeHash.digest (is_some log) c.args.engine.now (Ok tt) c.args.engine.now) (sym c.in-None.is)
    (refl, refl)

pub returns-in-None-clause-run : goal.returns-in-None-clause-run
returns-in-None-clause-run g c = none c.args.engine.now
