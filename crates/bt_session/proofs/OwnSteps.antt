-- The step that an event with this answer is, by the definition of its own event.
use Rattle.std.specs.Prelude.{[], ◌≡◌, ℕ, List, ◌∷◌, Option, Some, None, Result}
use Rattle.std.proofs.Common.{ap, refl, sym, subst}
use Rattle.std.specs.declared.alloc.AllocError.{AllocError}
use Rattle.bt_disk.specs.Conduct.{Conduct}
use Rattle.bt_book.specs.declared.names.PeerKey.{PeerKey}
use Rattle.bt_machine.specs.declared.event.Event.TheVariants.{Connect, Feed, Next, Lost as LostEvent, Rechoke, Flush}
use Rattle.bt_machine.specs.declared.event.Answer.{Answer}
use Rattle.bt_machine.specs.declared.event.Answer.TheVariants.{Connected, Fed, Stepped, Lost as LostAnswer, Rechoked, Flushed}
use Rattle.bt_machine.specs.declared.error.ConnectError.{ConnectError}
use Rattle.bt_machine.specs.declared.error.EngineError.{EngineError}
use Rattle.bt_machine.specs.declared.error.FlushError.{FlushError}
use Rattle.bt_machine.specs.State.{EngineState}
use Rattle.bt_machine.specs.LogCalls.{EventCalls, LogCall, HaveLogCalls}
use Rattle.bt_machine.specs.Output.{Output}
use Rattle.bt_machine.specs.Next.{StepNext}
use Rattle.bt_machine.specs.Peers.{StepConnect, StepFeed, StepLost}
use Rattle.bt_machine.specs.Rechoke.{StepRechoke}
use Rattle.bt_machine.specs.Flush.{StepFlush}
use Rattle.bt_machine.specs.Step.{Step}

abbrev connected_in : Result (PeerKey × Output) ConnectError → Answer → Result (PeerKey × Output) ConnectError
connected_in other (Connected r) = r
connected_in other _ = other

abbrev fed_in : Result (Unit {0}) EngineError → Answer → Result (Unit {0}) EngineError
fed_in other (Fed r) = r
fed_in other _ = other

abbrev stepped_in : Result (Option Output) EngineError → Answer → Result (Option Output) EngineError
stepped_in other (Stepped r) = r
stepped_in other _ = other

abbrev lost_in : Result (Unit {0}) EngineError → Answer → Result (Unit {0}) EngineError
lost_in other (LostAnswer r) = r
lost_in other _ = other

abbrev rechoked_in : Result Output AllocError → Answer → Result Output AllocError
rechoked_in other (Rechoked r) = r
rechoked_in other _ = other

abbrev flushed_in : Result (Unit {0}) FlushError → Answer → Result (Unit {0}) FlushError
flushed_in other (Flushed r) = r
flushed_in other _ = other

module _ (dig : List ℕ → List ℕ) {old new : EngineState} {calls : EventCalls} where
  pub own_connect : (r : Result (PeerKey × Output) ConnectError) → Step dig old Connect calls (Connected r) new → StepConnect old r new
  own_connect r step = subst (λ (q : Result (PeerKey × Output) ConnectError). StepConnect old q new) (sym (ap (connected_in r) step.1)) step.3

  pub own_feed : {key : PeerKey} {bytes : List ℕ} (r : Result (Unit {0}) EngineError) → Step dig old (Feed key bytes) calls (Fed r) new
      → StepFeed old key bytes r new
  own_feed {key} {bytes} r step = subst (λ (q : Result (Unit {0}) EngineError). StepFeed old key bytes q new) (sym (ap (fed_in r) step.1)) step.3

  pub own_next : {key : PeerKey} (r : Result (Option Output) EngineError) → Step dig old (Next key) calls (Stepped r) new
      → StepNext dig old key calls.devices r new
  own_next {key} r step = subst (λ (q : Result (Option Output) EngineError). StepNext dig old key calls.devices q new) (sym (ap (stepped_in r) step.1)) step.3

  pub own_lost : {key : PeerKey} (r : Result (Unit {0}) EngineError) → Step dig old (LostEvent key) calls (LostAnswer r) new
      → StepLost old key r new
  own_lost {key} r step = subst (λ (q : Result (Unit {0}) EngineError). StepLost old key q new) (sym (ap (lost_in r) step.1)) step.3

  pub own_rechoke : (r : Result Output AllocError) → Step dig old Rechoke calls (Rechoked r) new → StepRechoke dig old r new
  own_rechoke r step = subst (λ (q : Result Output AllocError). StepRechoke dig old q new) (sym (ap (rechoked_in r) step.1)) step.3

  pub own_flush : (r : Result (Unit {0}) FlushError) → Step dig old Flush calls (Flushed r) new → StepFlush old calls r new
  own_flush r step = subst (λ (q : Result (Unit {0}) FlushError). StepFlush old calls q new) (sym (ap (flushed_in r) step.1)) step.2

-- a log of which no call is made stays
pub log_stays : {D : Type 0} (conduct : Conduct D) (old new : Option _) (calls : List LogCall)
    → HaveLogCalls conduct old calls new → calls ≡ [] → new ≡ old
log_stays conduct (Some old) (Some new) [] made none = ap (λ l. Some l) made
log_stays conduct None None calls made none = refl
log_stays conduct (Some old) (Some new) (call ∷ calls) made none = absurd cc
log_stays conduct (Some old) None calls made none = absurd made
log_stays conduct None (Some new) calls made none = absurd made
