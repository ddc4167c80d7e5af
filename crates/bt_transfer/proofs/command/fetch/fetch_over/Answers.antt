use Rattle.bt_engine.specs.Leads.{both}
use Rattle.bt_files.specs.Ending.{IsEndFault}
use Rattle.bt_files.proofs.Faults.{err_weaker, ok_weaker, passed_on}
use Rattle.bt_files.proofs.Unlogged.{end_fault_before}
use Rattle.bt_transfer.specs.FetchSteps.{among, not_concluded}
use Rattle.bt_transfer.proofs.FullLogs.{flush_full}
use Rattle.bt_transfer.proofs.command.fetch.fetch_over.Goals as goal

pub returns-in_err-take_turns-clause-broken_off : goal.returns-in_err-take_turns-clause-broken_off
returns-in_err-take_turns-clause-broken_off g c =
    passed_on c.from_residual.result _ _ c.from_residual.ensures.1 (among c.in_err-take_turns.ensures.stopped)

pub returns-in_err-take_turns-clause-fault : goal.returns-in_err-take_turns-clause-fault
returns-in_err-take_turns-clause-fault g c =
    passed_on c.from_residual.result _ (IsEndFault c.args.engine.now.log) c.from_residual.ensures.1 c.in_err-take_turns.ensures.fault

pub returns-in_err-take_turns-clause-full : goal.returns-in_err-take_turns-clause-full
returns-in_err-take_turns-clause-full g c =
    passed_on c.from_residual.result _ _ c.from_residual.ensures.1 c.in_err-take_turns.ensures.full

pub returns-clause-fetched : goal.returns-clause-fetched
returns-clause-fetched g c = ok_weaker c.conclude.result _ _ (λ status ended. record {
  kept = c.take_turns.new.engine;
  told = g.W.Write.contents c.take_turns.new.writer;
  in_turn = c.in_ok-take_turns.ensures.told;
  end = ended;
}) c.conclude.ensures.concluded

pub returns-clause-broken_off : goal.returns-clause-broken_off
returns-clause-broken_off g c =
    let told = c.in_ok-take_turns.ensures.told in
    err_weaker c.conclude.result _ _ (λ fault fails. not_concluded told.ends c.take_turns.new.engine told.tried fails) c.conclude.ensures.failed

pub returns-clause-run : goal.returns-clause-run
returns-clause-run g c =
    both _ _ _ c.take_turns.ensures.run c.conclude.ensures.run

pub returns-clause-fault : goal.returns-clause-fault
returns-clause-fault g c =
    err_weaker c.conclude.result _ _ (end_fault_before _ _ c.take_turns.ensures.run) c.conclude.ensures.fault

pub returns-clause-full : goal.returns-clause-full
returns-clause-full g c =
    err_weaker c.conclude.result _ _ (λ fault fails. flush_full c.take_turns.ensures.run fails) c.conclude.ensures.failed
