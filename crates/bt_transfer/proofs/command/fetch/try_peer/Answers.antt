use Rattle.std.proofs.Common.{inl, Err, true, sym, ap, subst}
use Rattle.bt_engine.specs.Leads.{both}
use Rattle.bt_files.specs.Store.{IsFlushFault}
use Rattle.bt_files.proofs.Faults.{err_weaker}
use Rattle.bt_files.proofs.Unlogged.{end_fault_before}
use Rattle.bt_transfer.specs.Turns.{behind, cut_short}
use Rattle.bt_transfer.proofs.FullLogs.{found_later}
use Rattle.bt_transfer.proofs.RefusedFlushes.{end_fault, end_full}
use Rattle.bt_transfer.proofs.command.fetch.try_peer.Goals as goal

pub returns-in-Ok-clause-tried : goal.returns-in-Ok-clause-tried
returns-in-Ok-clause-tried g c = behind c.meet_peer-end.new.engine
    (record {
      reached = c.dial-reached.result;
      dialled = record {
        once = c.dial-reached.ensures.counted;
        failed = c.dial-reached.ensures.failed;
        given = c.dial-reached.ensures.given;
      };
      ended = rw c.in-Ok.is at c.meet_peer-end.ensures.ended;
    })
    c.take_in_and_sync.ensures.behind

pub returns-in-Ok-clause-run : goal.returns-in-Ok-clause-run
returns-in-Ok-clause-run g c =
    both _ _ _ c.meet_peer-end.ensures.run
    c.take_in_and_sync.ensures.run

pub returns-in-Ok-clause-fault : goal.returns-in-Ok-clause-fault
returns-in-Ok-clause-fault g c =
    err_weaker c.take_in_and_sync.result _ _ (end_fault_before _ _ c.meet_peer-end.ensures.run)
    c.take_in_and_sync.ensures.fault

pub returns-in-Ok-clause-full : goal.returns-in-Ok-clause-full
returns-in-Ok-clause-full g c =
    err_weaker c.take_in_and_sync.result _ _ (λ fault found full. found_later c.meet_peer-end.ensures.run (found full))
    c.take_in_and_sync.ensures.full

pub returns-in-Err-clause-tried : goal.returns-in-Err-clause-tried
returns-in-Err-clause-tried g c = cut_short c.in-Err.error
    (record {
      reached = c.dial-reached.result;
      dialled = record {
        once = c.dial-reached.ensures.counted;
        failed = c.dial-reached.ensures.failed;
        given = c.dial-reached.ensures.given;
      };
      ended = rw c.in-Err.is at c.meet_peer-end.ensures.ended;
    })
    (ap (λ f. Err f) c.flush_fault.ensures)

pub returns-in-Err-clause-fault : goal.returns-in-Err-clause-fault
returns-in-Err-clause-fault g c =
    inl (subst (IsFlushFault c.args.engine.now.log) (sym c.flush_fault.ensures)
    (end_fault g.D.Disk.conduct g.H.NodeHash.digest g.L.R.Read.remaining g.L.W.Write.contents true c.args.flushing c.args.turns
    c.dial-reached.result c.args.engine.now c.meet_peer-end.new.engine c.meet_peer-end.result.0 c.in-Err.error
    (rw c.in-Err.is at c.meet_peer-end.ensures.ended)))

pub returns-in-Err-clause-full : goal.returns-in-Err-clause-full
returns-in-Err-clause-full g c =
    end_full g.D.Disk.conduct g.H.NodeHash.digest g.L.R.Read.remaining g.L.W.Write.contents true c.args.flushing c.args.turns
    c.dial-reached.result c.args.engine.now c.meet_peer-end.new.engine c.meet_peer-end.result.0 c.in-Err.error
    (rw c.in-Err.is at c.meet_peer-end.ensures.ended) c.flush_fault.result c.flush_fault.ensures
