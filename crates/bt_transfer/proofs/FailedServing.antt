-- Lemmas on a connection, on the flush that comes behind it, and on what fails with that.
use Rattle.std.proofs.Common.{◌≡◌, ◌⊎◌, inl, inr, ℕ, List, Result, Ok, Err, subst}
use Rattle.std.specs.Prelude.{IfErr, IfOk, OnOk}
use Rattle.bt_disk.specs.Conduct.{Conduct}
use Rattle.bt_check.specs.Fault.{device, log_full, out_of_memory}
use Rattle.bt_check.specs.declared.fault.Fault.{Fault}
use Rattle.bt_files.specs.OpenFolder.{IsCallFault}
use Rattle.bt_files.specs.Store.{flush_fault}
use Rattle.bt_machine.specs.State.{EngineView}
use Rattle.bt_machine.specs.View.{StepsTo}
use Rattle.bt_machine.specs.declared.error.FlushError.{FlushError}
use Rattle.bt_machine.specs.declared.event.Event.TheVariants.{Flush}
use Rattle.bt_machine.specs.declared.event.Answer.TheVariants.{Flushed}
use Rattle.bt_engine.specs.Leads.{LeadsTo, both}
use Rattle.bt_session.specs.declared.peer_end.PeerEnd.{PeerEnd}
use Rattle.bt_transfer.specs.Connections.{FailsToServe, MeetsAndSyncs}
use Rattle.bt_transfer.specs.FullLog.{FindsLogFull}
use Rattle.bt_transfer.specs.OverTcp.{MeetsOverTcp}
use Rattle.bt_transfer.specs.Seed.{FailsToSeed}
use Rattle.bt_transfer.proofs.EndFaults.{call_not_full}
use Rattle.bt_transfer.proofs.FullLogs.{flush_full, full_at_once}

-- what holds anyway holds of success
pub on_ok : {T E : Type 0} (r : Result T E) (P : Type 0) → P → OnOk r P
on_ok (Ok x) P holds = holds
on_ok (Err e) P holds = tt

module _ {D : Type 0} (conduct : Conduct D) (dig : List ℕ → List ℕ) where
  -- a connection was served, and then all was synced
  pub met_and_synced : (old mid new : EngineView D) (met told : Result PeerEnd Fault) → IfOk met (λ end. MeetsOverTcp conduct dig old end mid)
      → StepsTo conduct dig mid Flush (Flushed (Ok tt)) new → IfOk told (λ end. met ≡ Ok end) → IfOk told (λ end. MeetsAndSyncs conduct dig old end new)
  met_and_synced old mid new met (Ok end) served synced same =
      record { mid = mid; met = subst (λ r. IfOk r (λ e. MeetsOverTcp conduct dig old e mid)) same served; synced = synced }
  met_and_synced old mid new met (Err fault) served synced same = tt

-- why serving fails
module _ {D : Type 0} {conduct : Conduct D} {dig : List ℕ → List ℕ} where
  -- by the flush
  pub fails_by_flush : {old mid new : EngineView D} {fault : Fault} → LeadsTo conduct dig old mid
      → (error : FlushError) × (fault ≡ flush_fault error) × StepsTo conduct dig mid Flush (Flushed (Err error)) new
      → FailsToServe conduct dig old fault new
  fails_by_flush {mid = mid} led refused =
      record { mid = mid; led = led; ended = record { answer = Err refused.0; flushed = refused.2; told = refused.1 } }

  -- by a call, where the flush was made
  pub fails_by_call : {old mid new : EngineView D} {fault : Fault} → LeadsTo conduct dig old mid → StepsTo conduct dig mid Flush (Flushed (Ok tt)) new
      → IsCallFault fault → FailsToServe conduct dig old fault new
  fails_by_call {mid = mid} led synced call = record { mid = mid; led = led; ended = record { answer = Ok tt; flushed = synced; told = call } }

  -- behind events that came before
  pub fails_later : {old first new : EngineView D} {fault : Fault} → LeadsTo conduct dig old first
      → FailsToServe conduct dig first fault new → FailsToServe conduct dig old fault new
  fails_later {old} {first} before fails = record { mid = fails.mid; led = both old first fails.mid before fails.led; ended = fails.ended }

  -- by a full log
  pub full_seed : {old new : EngineView D} (fault : Fault) → FailsToSeed conduct dig old fault new → fault ≡ log_full → FindsLogFull conduct dig old
  full_seed fault (inl unserved) full = absurd (call_not_full fault unserved.1 full)
  full_seed fault (inr (inl fails)) full = flush_full fails.led fails.ended full
  full_seed fault (inr (inr fails)) full = full_at_once fault fails full

-- why the line of a connection is not written: none was taken, which a device tells, or a call failed
pub not_told : (met told : Result PeerEnd Fault) → IfErr met (λ fault. fault ≡ device)
    → IfErr told (λ fault. (fault ≡ device) ⊎ (fault ≡ out_of_memory) ⊎ (met ≡ Err fault)) → IfErr told IsCallFault
not_told met (Ok end) unmet why = tt
not_told met (Err fault) unmet (inl failed) = inl failed
not_told met (Err fault) unmet (inr (inl short)) = inr short
not_told met (Err fault) unmet (inr (inr same)) = inl (subst (λ r. IfErr r (λ it. it ≡ device)) same unmet)
