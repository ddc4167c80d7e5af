use Rattle.std.proofs.Common.{sym, subst}
use Rattle.bt_machine.specs.declared.event.Event.TheVariants.{Flush}
use Rattle.bt_engine.specs.Leads.{one}
use Rattle.bt_files.specs.Store.{IsFlushFault}
use Rattle.bt_files.proofs.Unlogged.{flush_fails, same_but_pending}
use Rattle.bt_files.proofs.store.finish.Goals as goal

pub returns-in-Err-clause-failed : goal.returns-in-Err-clause-failed
returns-in-Err-clause-failed g c = (c.in-Err.error, c.flush_fault.ensures, c.in-Err.ensures.step)

pub returns-in-Err-clause-fault : goal.returns-in-Err-clause-fault
returns-in-Err-clause-fault g c =
    subst (IsFlushFault c.args.engine.now.log) (sym c.flush_fault.ensures)
    (flush_fails g.D.Disk.conduct g.H.NodeHash.digest c.args.engine.now c.flush.new.self c.in-Err.error c.in-Err.ensures.step)

pub returns-in-Ok-clause-same : goal.returns-in-Ok-clause-same
returns-in-Ok-clause-same g c =
    same_but_pending g.D.Disk.conduct g.H.NodeHash.digest c.args.engine.now c.flush.new.self _ c.flush.ensures.step

pub returns-in-Err-clause-same : goal.returns-in-Err-clause-same
returns-in-Err-clause-same g c =
    same_but_pending g.D.Disk.conduct g.H.NodeHash.digest c.args.engine.now c.flush.new.self _ c.flush.ensures.step

pub returns-in-Ok-clause-run : goal.returns-in-Ok-clause-run
returns-in-Ok-clause-run g c = one c.args.engine.now c.flush.new.self Flush _ (λ e. absurd cc) c.flush.ensures.step

pub returns-in-Err-clause-run : goal.returns-in-Err-clause-run
returns-in-Err-clause-run g c = one c.args.engine.now c.flush.new.self Flush _ (λ e. absurd cc) c.flush.ensures.step
