use Rattle.std.proofs.Common.{refl}
use Rattle.bt_engine.specs.Leads.{none, both}
use Rattle.bt_transfer.specs.Connections.{MeetsAndSyncs}
use Rattle.bt_transfer.proofs.FailedServing.{fails_later}
use Rattle.bt_transfer.proofs.ConnectionLines.{served_more, served_none}
use Rattle.bt_files.specs.Ending.{IsEndFault}
use Rattle.bt_files.proofs.Faults.{passed_on}
use Rattle.bt_files.proofs.Unlogged.{end_fault_before}
use Rattle.bt_transfer.proofs.connections.serve_each.Goals as goal

pub loop-number-init : goal.loop-number-init
loop-number-init g c = (served_none _ c.args.engine.now (g.W.Write.contents c.args.writer.now), c.requires.no_peer, none c.args.engine.now)

pub loop-number-preserved : goal.loop-number-preserved
loop-number-preserved g c = (
  served_more (MeetsAndSyncs g.D.Disk.conduct g.H.NodeHash.digest) c.args.engine.now c.loop-number.engine
      c.serve_and_sync.new.engine c.loop-number.number _ _ c.in_ok-serve_and_sync.field-0 (g.W.Write.contents c.args.writer.now)
      (g.W.Write.contents c.loop-number.writer) (g.W.Write.contents c.serve_and_sync.new.writer) c.loop-number.invariant.0
      c.in_ok-serve_and_sync.ensures.served c.in_ok-serve_and_sync.ensures.told refl refl,
  c.in_ok-serve_and_sync.ensures.gone,
  both _ _ _ c.loop-number.invariant.2 c.serve_and_sync.ensures.run,
)

pub returns-in_err-serve_and_sync-clause-run : goal.returns-in_err-serve_and_sync-clause-run
returns-in_err-serve_and_sync-clause-run g c =
    both _ _ _ c.loop-number.invariant.2 c.serve_and_sync.ensures.run

pub returns-in_err-serve_and_sync-clause-fault : goal.returns-in_err-serve_and_sync-clause-fault
returns-in_err-serve_and_sync-clause-fault g c =
    passed_on c.from_residual.result _ (IsEndFault c.args.engine.now.log) c.from_residual.ensures.1
    (end_fault_before _ _ c.loop-number.invariant.2 _ c.in_err-serve_and_sync.ensures.fault)

pub returns-in_err-serve_and_sync-clause-kept : goal.returns-in_err-serve_and_sync-clause-kept
returns-in_err-serve_and_sync-clause-kept g c =
    passed_on c.from_residual.result _ _ c.from_residual.ensures.1
    (fails_later c.loop-number.invariant.2 c.in_err-serve_and_sync.ensures.kept)
