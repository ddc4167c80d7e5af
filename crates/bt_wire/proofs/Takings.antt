-- The first event is taken by a step of the offset, or stays where memory was refused.
use Rattle.std.proofs.Common.{◌≡◌, ℕ, ◌+◌, ◌-◌, Bool, true, false, List, ◌++◌, length, take, drop, sym, ◌∙◌, ap, refl, subst, inl, inr, Result, Ok, Err, IfErr}
use Rattle.std.proofs.lemmas.List.{take-append-drop, drop-drop, take_rest}
use Rattle.bt_wire.specs.declared.event.WireEvent.{WireEvent}
use Rattle.bt_wire.specs.declared.event.WireEvent.TheVariants.{Message}
use Rattle.bt_wire.specs.declared.event.WireError.{WireError}
use Rattle.bt_wire.specs.declared.event.WireError.TheVariants.{OutOfMemory}
use Rattle.bt_wire.specs.Event.{ShowsFault}
use Rattle.bt_wire.specs.Cutter.{stream, Takes, AwaitsMemory}
use Rattle.bt_wire.specs.FrontSteps.{BeginsEvent, HasFront, IsFrontRefusal}

pub takes_front : (bytes rest : List ℕ) (start n : ℕ) (greeted failed : Bool) (e : WireEvent) → failed ≡ false
    → rest ≡ drop (start + n) bytes → BeginsEvent greeted (take (length bytes - start) (drop start bytes)) e n
    → Takes (stream (drop start bytes) greeted failed) e (stream rest true failed)
takes_front bytes rest start n greeted failed e running rest_is begins =
    let here = subst (λ (xs : List ℕ). BeginsEvent greeted xs e n) (take_rest bytes start) begins in
    let behind : drop n (drop start bytes) ≡ rest = drop-drop n start bytes ∙ sym rest_is in
    record {
      bytes = take n (drop start bytes);
      event = here.event;
      front = sym (take-append-drop n (drop start bytes)) ∙ ap (λ xs. take n (drop start bytes) ++ xs) behind;
      running = running;
      greeted = refl;
      not_failed = running;
    }

pub err_of : {T E P : Type 0} → (r : Result T E) → P → IfErr r (λ _. P)
err_of (Ok _) p = tt
err_of (Err _) p = p

-- the message that is there stays first
pub awaits_memory : (bytes : List ℕ) (start : ℕ) (greeted failed : Bool) → failed ≡ false
    → HasFront greeted (take (length bytes - start) (drop start bytes)) → AwaitsMemory (stream (drop start bytes) greeted failed)
awaits_memory bytes start greeted failed running front = (
  front.0,
  stream (drop (start + front.1) bytes) true failed,
  takes_front bytes (drop (start + front.1) bytes) start front.1 greeted failed (Message front.0) running refl front.2,
  front.3,
)

-- out of memory is no fault of the stream
no_fault : (greeted : Bool) (unread : List ℕ) → ¬ ShowsFault greeted unread OutOfMemory
no_fault true unread shown = shown
no_fault false unread shown = shown

pub front_of : (greeted : Bool) (unread : List ℕ) (error : WireError) → error ≡ OutOfMemory → IsFrontRefusal greeted unread error
    → HasFront greeted unread
front_of greeted unread error is (inl refused) = refused.1
front_of greeted unread error is (inr shown) =
    absurd (no_fault greeted unread (subst (λ (fault : WireError). ShowsFault greeted unread fault) is shown))
