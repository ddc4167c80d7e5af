-- What holds where a swarm is over.
use Rattle.std.proofs.Common.{[], ◌≡◌, ◌≢◌, ℕ, ◌-◌, ◌^◌, Bool, true, List, ◌∷◌, ◌++◌, Result, Ok, Err, sym, ◌∙◌, subst, ◌⊎◌, inl, inr}
use Rattle.std.specs.Prelude.{OnOk, IfErr, IsErrAnd}
use Rattle.std.proofs.lemmas.List.Elements.{Contains-append_left, Contains-append_right, Contains-push}
use Rattle.bt_disk.specs.Conduct.{Conduct}
use Rattle.bt_machine.specs.declared.error.FlushError.{FlushError}
use Rattle.bt_machine.specs.declared.event.Event.TheVariants.{Flush}
use Rattle.bt_machine.specs.declared.event.Answer.TheVariants.{Flushed}
use Rattle.bt_machine.specs.Report.{all_complete}
use Rattle.bt_machine.specs.State.{EngineView}
use Rattle.bt_session.specs.declared.end.SessionEnd.{SessionEnd}
use Rattle.bt_session.specs.declared.end.SessionEnd.TheVariants.{Complete, ReadFault}
use Rattle.bt_swarm.specs.declared.member.Member.{Member}
use Rattle.bt_swarm.specs.Causes.{IsFault, IsRefused, MayEndAll}
use Rattle.bt_swarm.specs.Runs.{Happening, Runs, none, one_more}
use Rattle.bt_swarm.specs.Steps.{Steps, IsComplete, MayBeFlushed}
use Rattle.bt_swarm.specs.Swarm.{IsAtEnd, completed, deserted, waited_out, IsOver, complete, nobody, spent, IsCutShort}
use Rattle.bt_swarm.proofs.Causing.{runs_trans}

pub on_err : {T E : Type 0} (Q : E → Type 0) (r : Result T E) (P : Type 0) → IsErrAnd r Q → OnOk r P
on_err Q (Ok x) P h = absurd h
on_err Q (Err e) P h = tt

pub on_any : {T E : Type 0} (r : Result T E) (P : Type 0) → P → OnOk r P
on_any (Ok x) P h = h
on_any (Err e) P h = tt

pub on_map : {T E : Type 0} (r : Result T E) (P Q : Type 0) → (P → Q) → OnOk r P → OnOk r Q
on_map (Ok x) P Q f h = f h
on_map (Err e) P Q f h = tt

pub if_map : {T E : Type 0} (r : Result T E) (P Q : E → Type 0) → ((e : E) → P e → Q e) → IfErr r P → IfErr r Q
if_map (Ok x) P Q f h = tt
if_map (Err e) P Q f h = f e h

-- an error that is passed on
pub if_passed : {T E : Type 0} (r : Result T E) (e : E) (P : E → Type 0) → IsErrAnd r (λ y. y ≡ e) → P e → IfErr r P
if_passed (Ok x) e P is h = tt
if_passed (Err y) e P is h = subst P (sym is) h

-- ---- why a swarm is over

-- All have gone since the rounds were over: none, where nobody was there.
pub over_at : {D R W : Type 0} (until : Bool) (a b : EngineView D) (members : List (Member R W)) (shut still : Type 0) (n m : ℕ)
    → (members ≡ [] → a.state.peers ≡ []) → (members ≡ [] → b ≡ a) → all_complete b.state ≡ all_complete a.state → (shut → still) → m ≡ n
    → IsAtEnd until a members shut n → IsOver (λ asked now. now ≡ asked) until b still m
over_at until a b members shut still n m none_there as_it_was same on equal (completed asked all) = complete asked (same ∙ all)
over_at until a b members shut still n m none_there as_it_was same on equal (deserted left is) = nobody a (none_there left) (on is) (as_it_was left)
over_at until a b members shut still n m none_there as_it_was same on equal (waited_out all) = spent (equal ∙ all)

-- and there was the last flush
pub over_flushed : {D : Type 0} (conduct : Conduct D) (dig : List ℕ → List ℕ) (until : Bool) (a b : EngineView D) (shut : Type 0) (n : ℕ)
    → all_complete b.state ≡ all_complete a.state → MayBeFlushed conduct dig a b
    → IsOver (λ asked now. now ≡ asked) until a shut n → IsOver (MayBeFlushed conduct dig) until b shut n
over_flushed conduct dig until a b shut n same flush (complete asked all) = complete asked (same ∙ all)
over_flushed conduct dig until a b shut n same flush (nobody asked alone is as_it_was) =
    nobody asked alone is (subst (λ (e : EngineView _). MayBeFlushed conduct dig e b) as_it_was flush)
over_flushed conduct dig until a b shut n same flush (spent all) = spent all

-- how those end that are there then
pub end_for_all : {D R W : Type 0} (fault write_fault : Type 0) (until : Bool) (answer : Result (Unit {0}) FlushError) (a : EngineView D) (members : List (Member R W)) (shut : Type 0) (n : ℕ) (end : SessionEnd)
    → OnOk answer (IsAtEnd until a members shut n)
    → ((end ≡ Complete) × IsComplete a) ⊎ ((end ≡ ReadFault) × (until ≡ true → ¬ IsComplete a)) → members ≢ []
    → MayEndAll (fault ⊎ IsCutShort answer n) write_fault a end
end_for_all fault write_fault until answer a members shut n end at (inl all) some = inr all
end_for_all fault write_fault until (Err e) a members shut n end at (inr not) some =
    inl (subst (IsFault (fault ⊎ Unit {0}) write_fault) (sym not.0) (inr tt))
end_for_all fault write_fault until (Ok u) a members shut n end (completed asked all) (inr not) some = absurd (not.1 asked all)
end_for_all fault write_fault until (Ok u) a members shut n end (deserted left is) (inr not) some = absurd (some left)
end_for_all fault write_fault until (Ok u) a members shut n end (waited_out all) (inr not) some =
    inl (subst (IsFault (fault ⊎ (n ≡ 2 ^ 64 - 1)) write_fault) (sym not.0) (inr all))

-- ---- a flush that was refused

module _ {D : Type 0} (conduct : Conduct D) (dig : List ℕ → List ℕ) where
  pub flush_refused : (a b : EngineView D) (r : Result (Unit {0}) FlushError) → Steps conduct dig a Flush (Flushed r) b → IfErr r (λ e. IsRefused conduct dig a e b)
  flush_refused a b (Ok x) s = tt
  flush_refused a b (Err e) s = record {
    history = (Flush, Flushed (Err e)) ∷ [];
    runs = one_more [] Flush (Flushed (Err e)) a b none s;
    refused = Contains-push [] (Flush, Flushed (Err e));
  }

  pub refused_after : (a b c : EngineView D) (history : List Happening) (e : FlushError) → Runs (Steps conduct dig) a history b → IsRefused conduct dig b e c → IsRefused conduct dig a e c
  refused_after a b c history e ran r = record {
    history = history ++ r.history;
    runs = runs_trans (Steps conduct dig) a b c history r.history ran r.runs;
    refused = Contains-append_right history r.history _ r.refused;
  }

  pub refused_on : (a b c : EngineView D) (history : List Happening) (e : FlushError) → IsRefused conduct dig a e b → Runs (Steps conduct dig) b history c → IsRefused conduct dig a e c
  refused_on a b c history e r ran = record {
    history = r.history ++ history;
    runs = runs_trans (Steps conduct dig) a b c r.history history r.runs ran;
    refused = Contains-append_left r.history history _ r.refused;
  }
