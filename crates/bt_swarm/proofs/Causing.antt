-- A cause of an end stays one as more happens, before and afterwards.
use Rattle.std.proofs.Common.{[], ◌≡◌, ◌⊎◌, inl, inr, Some, Ok, arith, ℕ, List, ◌∷◌, ◌++◌, refl, sym, ap, ◌∙◌, subst, append-nil, append_assoc}
use Rattle.std.specs.Prelude.{Contains}
use Rattle.std.proofs.lemmas.List.Elements.{Contains-append_left, Contains-append_right, Contains-append_cases, Contains-push_cases}
use Rattle.bt_disk.specs.Conduct.{Conduct}
use Rattle.bt_book.specs.declared.names.PeerKey.{PeerKey}
use Rattle.bt_machine.specs.declared.answer.Why.{Why}
use Rattle.bt_machine.specs.declared.event.Event.{Event}
use Rattle.bt_machine.specs.declared.event.Event.TheVariants.{Next}
use Rattle.bt_machine.specs.declared.event.Answer.TheVariants.{Stepped}
use Rattle.bt_machine.specs.Output.{Output}
use Rattle.bt_machine.specs.declared.event.Answer.{Answer}
use Rattle.bt_machine.specs.State.{EngineView}
use Rattle.bt_session.specs.declared.end.SessionEnd.{SessionEnd}
use Rattle.bt_session.specs.declared.end.SessionEnd.TheVariants.{Complete, Ended, Closed, TurnsSpent, ReadFault, WriteFault, Memory}
use Rattle.bt_swarm.specs.Runs.{Happening, Runs, none, one_more}
use Rattle.bt_swarm.specs.Steps.{Steps, IsComplete}
use Rattle.bt_swarm.specs.Causes.{HasCause, IsClosedIn, IsFault}

pub runs_trans : {M : Type 0} (steps : M → Event → Answer → M → Type 0) (first mid now : M) (history more : List Happening)
    → Runs steps first history mid → Runs steps mid more now → Runs steps first (history ++ more) now
runs_trans steps first mid now history more p none = subst (λ l. Runs steps first l mid) (sym (append-nil history)) p
runs_trans steps first mid now history more p (one_more so_far event answer before after q s) =
    subst (λ l. Runs steps first l after) (append_assoc history so_far ((event, answer) ∷ []))
    (one_more (history ++ so_far) event answer before after (runs_trans steps first mid before history so_far p q) s)

-- ---- closed by an event

-- it is no event that closes a peer
abbrev pub ClosesNobody : Event → Answer → Type 0
ClosesNobody event answer = (key : PeerKey) (out : Output) (why : Why) → event ≡ Next key → answer ≡ Stepped (Ok (Some out)) → out.close ≡ Some why → ⊥

one_happening : (a b : Happening) → Contains (a ∷ []) b → a ≡ b
one_happening a b h = elim (Contains-push_cases [] a b h) [ inl before ↦ absurd (let lt = before.1 in omega arith) | inr is ↦ is ]

pub not_closed : (event : Event) (answer : Answer) → ClosesNobody event answer → (key : PeerKey) (why : Why) → ¬ IsClosedIn ((event, answer) ∷ []) key why
not_closed event answer nobody key why c =
    let same : (event, answer) ≡ (Next key, Stepped (Ok (Some c.out))) = one_happening (event, answer) (Next key, Stepped (Ok (Some c.out))) c.happened in
    nobody key c.out why (ap (λ (h : Happening). h.0) same) (ap (λ (h : Happening). h.1) same) c.closes

-- it closes no other
pub closed_key : (key other : PeerKey) (answer : Answer) (why : Why) → IsClosedIn ((Next key, answer) ∷ []) other why → key ≡ other
closed_key key other answer why c =
    let same : Next key ≡ Next other = ap (λ (h : Happening). h.0) (one_happening (Next key, answer) (Next other, Stepped (Ok (Some c.out))) c.happened) in cc

pub not_closed_yet : (key : PeerKey) (why : Why) → ¬ IsClosedIn [] key why
not_closed_yet key why c = let lt = c.happened.1 in omega arith

pub closed_in : (history more : List Happening) (key : PeerKey) (why : Why) → IsClosedIn (history ++ more) key why → IsClosedIn history key why ⊎ IsClosedIn more key why
closed_in history more key why c = elim (Contains-append_cases history more (Next key, Stepped (Ok (Some c.out))) c.happened) [
  | inl before ↦ inl (record { out = c.out; closes = c.closes; happened = before })
  | inr after ↦ inr (record { out = c.out; closes = c.closes; happened = after })
]

module _ {D : Type 0} (conduct : Conduct D) (dig : List ℕ → List ℕ) (read_fault write_fault : Type 0) where
  pub fault_cause : (first : EngineView D) (history : List Happening) (key : PeerKey) (end : SessionEnd) → IsFault read_fault write_fault end → HasCause conduct dig read_fault write_fault first history key end
  fault_cause first history key Complete f = absurd f
  fault_cause first history key Ended f = tt
  fault_cause first history key (Closed why) f = absurd f
  fault_cause first history key TurnsSpent f = absurd f
  fault_cause first history key ReadFault f = f
  fault_cause first history key WriteFault f = f
  fault_cause first history key Memory f = tt

  -- more happens afterwards
  pub cause_on : (first : EngineView D) (history more : List Happening) (key : PeerKey) (end : SessionEnd) → HasCause conduct dig read_fault write_fault first history key end
      → HasCause conduct dig read_fault write_fault first (history ++ more) key end
  cause_on first history more key Complete c = record {
    before = c.before;
    after = c.after ++ more;
    splits = ap (λ l. l ++ more) c.splits ∙ append_assoc c.before c.after more;
    engine = c.engine;
    ran = c.ran;
    complete = c.complete;
  }
  cause_on first history more key Ended c = tt
  cause_on first history more key (Closed why) c = record { out = c.out; closes = c.closes; happened = Contains-append_left history more _ c.happened }
  cause_on first history more key TurnsSpent c = absurd c
  cause_on first history more key ReadFault c = c
  cause_on first history more key WriteFault c = c
  cause_on first history more key Memory c = tt

  -- it happened after something else
  pub cause_after : (first mid : EngineView D) (history more : List Happening) (key : PeerKey) (end : SessionEnd) → Runs (Steps conduct dig) first history mid
      → HasCause conduct dig read_fault write_fault mid more key end → HasCause conduct dig read_fault write_fault first (history ++ more) key end
  cause_after first mid history more key Complete ran c = record {
    before = history ++ c.before;
    after = c.after;
    splits = ap (λ l. history ++ l) c.splits ∙ sym (append_assoc history c.before c.after);
    engine = c.engine;
    ran = runs_trans (Steps conduct dig) first mid c.engine history c.before ran c.ran;
    complete = c.complete;
  }
  cause_after first mid history more key Ended ran c = tt
  cause_after first mid history more key (Closed why) ran c = record { out = c.out; closes = c.closes; happened = Contains-append_right history more _ c.happened }
  cause_after first mid history more key TurnsSpent ran c = absurd c
  cause_after first mid history more key ReadFault ran c = c
  cause_after first mid history more key WriteFault ran c = c
  cause_after first mid history more key Memory ran c = tt

  -- all files are complete now
  pub complete_cause : (now : EngineView D) (key : PeerKey) → IsComplete now → HasCause conduct dig read_fault write_fault now [] key Complete
  complete_cause now key complete = record { before = []; after = []; splits = refl; engine = now; ran = none; complete = complete }

-- Where more faults may be told.
module _ (read_fault write_fault more_reads more_writes : Type 0) (reads : read_fault → more_reads) (writes : write_fault → more_writes) where
  pub fault_more : (end : SessionEnd) → IsFault read_fault write_fault end → IsFault more_reads more_writes end
  fault_more Complete f = absurd f
  fault_more Ended f = tt
  fault_more (Closed why) f = absurd f
  fault_more TurnsSpent f = absurd f
  fault_more ReadFault f = reads f
  fault_more WriteFault f = writes f
  fault_more Memory f = tt

  pub cause_more : {D : Type 0} (conduct : Conduct D) (dig : List ℕ → List ℕ) (first : EngineView D) (history : List Happening) (key : PeerKey) (end : SessionEnd)
      → HasCause conduct dig read_fault write_fault first history key end → HasCause conduct dig more_reads more_writes first history key end
  cause_more conduct dig first history key Complete c = c
  cause_more conduct dig first history key Ended c = tt
  cause_more conduct dig first history key (Closed why) c = c
  cause_more conduct dig first history key TurnsSpent c = absurd c
  cause_more conduct dig first history key ReadFault c = reads c
  cause_more conduct dig first history key WriteFault c = writes c
  cause_more conduct dig first history key Memory c = tt
