use Rattle.std.proofs.Common.{inl, refl, ap, ◌∙◌}
use Rattle.bt_machine.specs.State.{EngineState}
use Rattle.bt_engine.specs.Leads.{both}
use Rattle.bt_files.proofs.Adoptions.{adoption_fault}
use Rattle.bt_files.proofs.Faults.{call_ends, err_weaker}
use Rattle.bt_files.proofs.Unlogged.{flush_fault_before}
use Rattle.bt_transfer.specs.Turns.{all_taken_in, not_taken_in}
use Rattle.bt_transfer.proofs.EndFaults.{call_not_full}
use Rattle.bt_transfer.proofs.Flushes.{flush_told}
use Rattle.bt_transfer.proofs.FullLogs.{refused_full}
use Rattle.bt_transfer.proofs.command.fetch.take_in_and_sync.Goals as goal

pub returns-in-Ok-clause-behind : goal.returns-in-Ok-clause-behind
returns-in-Ok-clause-behind g c =
    let told = flush_told g.D.Disk.conduct g.H.NodeHash.digest c.take_in_behind.new.engine c.finish.new.engine c.finish.result
    c.finish.ensures.flushed c.finish.ensures.failed in
    all_taken_in c.take_in_behind.new.engine told.0 c.in-Ok.ensures.taken_in told.1 told.2

pub returns-in-Ok-clause-gone : goal.returns-in-Ok-clause-gone
returns-in-Ok-clause-gone g c = ap (λ (s : EngineState). s.peers) c.finish.ensures.same ∙ c.in-Ok.ensures.gone

pub returns-in-Ok-clause-run : goal.returns-in-Ok-clause-run
returns-in-Ok-clause-run g c =
    both _ _ _ c.in-Ok.ensures.run c.finish.ensures.run

pub returns-in-Ok-clause-fault : goal.returns-in-Ok-clause-fault
returns-in-Ok-clause-fault g c =
    err_weaker c.finish.result _ _
    (λ fault failed. inl (flush_fault_before _ _ c.in-Ok.ensures.run fault failed)) c.finish.ensures.fault

pub returns-in-Ok-clause-full : goal.returns-in-Ok-clause-full
returns-in-Ok-clause-full g c =
    err_weaker c.finish.result _ _ (λ fault refused. refused_full c.in-Ok.ensures.run refused.2 refused.1) c.finish.ensures.failed

pub returns-in-Err-clause-behind : goal.returns-in-Err-clause-behind
returns-in-Err-clause-behind g c =
    let told = flush_told g.D.Disk.conduct g.H.NodeHash.digest c.take_in_behind.new.engine c.finish-in-Err.new.engine c.finish-in-Err.result
    c.finish-in-Err.ensures.flushed c.finish-in-Err.ensures.failed in
    not_taken_in c.take_in_behind.new.engine c.in-Err.fault told.0 c.in-Err.ensures.fault told.1 refl

pub returns-in-Err-clause-gone : goal.returns-in-Err-clause-gone
returns-in-Err-clause-gone g c = ap (λ (s : EngineState). s.peers) c.finish-in-Err.ensures.same ∙ c.in-Err.ensures.gone

pub returns-in-Err-clause-run : goal.returns-in-Err-clause-run
returns-in-Err-clause-run g c =
    both _ _ _ c.in-Err.ensures.run c.finish-in-Err.ensures.run

pub returns-in-Err-clause-fault : goal.returns-in-Err-clause-fault
returns-in-Err-clause-fault g c =
    let stops = c.in-Err.ensures.fault in call_ends c.args.engine.now.log _ (adoption_fault stops.answer _ stops.cause)

pub returns-in-Err-clause-full : goal.returns-in-Err-clause-full
returns-in-Err-clause-full g c =
    let stops = c.in-Err.ensures.fault in λ full. absurd (call_not_full _ (adoption_fault stops.answer _ stops.cause) full)
