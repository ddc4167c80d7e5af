-- Lemmas on what ends a fetch from all peers at once.
use Rattle.std.proofs.Common.{◌≡◌, inl, inr, ℕ, Bool, true, false, List, Option, Result, Ok, Err, sym, subst}
use Rattle.std.specs.Borrow.{Bor}
use Rattle.std.specs.Prelude.{IfOk}
use Rattle.bt_disk.specs.Conduct.{Conduct}
use Rattle.bt_check.specs.declared.fault.Fault.{Fault}
use Rattle.bt_files.specs.Store.{FailsWithFlush, IsToldWith}
use Rattle.bt_machine.specs.declared.error.FlushError.{FlushError}
use Rattle.bt_machine.specs.declared.event.Event.TheVariants.{Flush}
use Rattle.bt_machine.specs.declared.event.Answer.TheVariants.{Flushed}
use Rattle.bt_machine.specs.State.{EngineView}
use Rattle.bt_machine.specs.View.{StepsTo}
use Rattle.bt_engine.specs.Leads.{LeadsTo}
use Rattle.bt_together.specs.Together.{FailsAtOnce}
use Rattle.bt_transfer.specs.Fetch.{Fetches, HasFetchedOverTcp}
use Rattle.bt_transfer.specs.FetchTogether.{HasFetchedTogether}
use Rattle.bt_words.specs.declared.peer.Peer.{Peer}

module _ {D : Type 0} {conduct : Conduct D} {dig : List ℕ → List ℕ} where
  answered : {old mid new : EngineView D} (fault : Fault) (answer : Result (Unit {0}) FlushError) → LeadsTo conduct dig old mid
      → StepsTo conduct dig mid Flush (Flushed answer) new → IsToldWith answer fault → FailsAtOnce conduct dig old fault
  answered fault (Ok done) led step told = inl told
  answered {mid = mid} {new = new} fault (Err error) led step told =
      inr (record { mid = mid; led = led; error = error; last = new; refused = step; told = told })

  -- with the last flush, behind events that led on
  pub concluding_fails : {old mid new : EngineView D} (fault : Fault) → LeadsTo conduct dig old mid → FailsWithFlush conduct dig mid fault new
      → FailsAtOnce conduct dig old fault
  concluding_fails fault led fails = answered fault fails.answer led fails.flushed fails.told

-- what is said of a fetch of one kind is said of one that is of that kind
module _ {D : Type 0} (conduct : Conduct D) (dig : List ℕ → List ℕ) (peers : List Peer) (log : Option (Bor (List ℕ))) (old new : EngineView D)
    (before after : Option (List ℕ)) (result : Result ℕ Fault) where
  pub fetched_together : (kind : Bool) → kind ≡ true → IfOk result (λ status. HasFetchedTogether conduct dig peers old before after status new)
      → IfOk result (λ status. Fetches conduct dig kind peers log old before after status new)
  fetched_together kind is fetched = subst (λ k. IfOk result (λ status. Fetches conduct dig k peers log old before after status new)) (sym is) fetched

  pub fetched_in_turn : (kind : Bool) → kind ≡ false → IfOk result (λ status. HasFetchedOverTcp conduct dig peers log old before after status new)
      → IfOk result (λ status. Fetches conduct dig kind peers log old before after status new)
  fetched_in_turn kind is fetched = subst (λ k. IfOk result (λ status. Fetches conduct dig k peers log old before after status new)) (sym is) fetched
