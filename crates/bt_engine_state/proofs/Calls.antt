-- Hints that are appended to a log, one after the other.
use Rattle.std.proofs.Common.{[], ◌≡◌, ℕ, ◌+◌, ◌<◌, ◌≤◌, List, ◌∷◌, ◌++◌, length, take, drop, get_or, Result, Ok, Err, refl, sym, ap, ◌∙◌, subst, All}
use Rattle.std.specs.Prelude.{IsErrAnd}
use Rattle.std.proofs.lemmas.List.{take_more, take_all, drop_more, take-append-drop, map-append}
use Rattle.std.proofs.lemmas.List.Elements.{All-get_or}
use Rattle.bt_disk.specs.Conduct.{Conduct}
use Rattle.bt_resume.specs.Hint.{IsHint}
use Rattle.bt_resume.specs.ResumeLog.{LogView, IsAppended}
use Rattle.bt_resume.specs.declared.hint.Hint.{Hint}
use Rattle.bt_resume.specs.declared.hint.Format.TheVariants.{Two}
use Rattle.bt_resume.specs.declared.error.AppendError.{AppendError}
use Rattle.bt_machine.specs.declared.error.FlushError.{FlushError}
use Rattle.bt_machine.specs.LogCalls.{LogCall, hint_appended, append_fault, IsLogCall, AreLogCalls}
use Rattle.bt_machine.specs.Flush.{appended, flush_error}
use Rattle.bt_engine_state.specs.Writing.{AppendsHints, appends, stops, WritesHints, unwritten}

pub err_is : (r : Result (Unit {0}) AppendError) (cause : AppendError) → IsErrAnd r (λ e. e ≡ cause) → r ≡ Err cause
err_is (Ok _) cause h = absurd h
err_is (Err e) cause h = ap Err h

module _ {D : Type 0} (conduct : Conduct D) where
  -- one call more
  pub then_call : (old : LogView D) (calls : List LogCall) (mid : LogView D) (call : LogCall) (new : LogView D)
      → AreLogCalls conduct old calls mid → IsLogCall conduct mid call new
      → AreLogCalls conduct old (calls ++ call ∷ []) new
  then_call old [] mid call new made one = (new, subst (λ (l : LogView D). IsLogCall conduct l call new) made one, refl)
  then_call old (first ∷ calls) mid call new made one = (made.0, made.1, then_call made.0 calls mid call new made.2 one)

  -- the first so many hints were appended
  abbrev pub AreAppended : LogView D → List Hint → ℕ → LogView D → Type 0
  AreAppended old hints i new = AreLogCalls conduct old (appended (take i hints)) new

  -- one hint more was appended
  pub one_appended : (old : LogView D) (hints : List Hint) (i : ℕ) (hint : Hint) (mid new : LogView D) → i < length hints
      → hint ≡ get_or hints i hint → All (IsHint Two) hints → AreAppended old hints i mid
      → IsAppended conduct hint mid {T = Unit {0}} (Ok tt) new → AreAppended old hints (i + 1) new
  one_appended old hints i hint mid new lt is are made one =
      let next : take (i + 1) hints ≡ take i hints ++ hint ∷ [] =
      take_more hints i hint lt ∙ ap (λ x. take i hints ++ x ∷ []) (sym is) in
      let lawful = subst (IsHint Two) (sym is) (All-get_or (IsHint Two) hints i hint lt are) in
      subst (λ calls. AreLogCalls conduct old calls new) (sym (ap appended next ∙ map-append hint_appended (take i hints) (hint ∷ [])))
      (then_call old (appended (take i hints)) mid (hint_appended hint) new made (lawful, one))

  -- a hint was refused
  pub one_refused : (old : LogView D) (hints : List Hint) (i : ℕ) (hint : Hint) (cause : AppendError) (mid new : LogView D) → i < length hints
      → hint ≡ get_or hints i hint → All (IsHint Two) hints → AreAppended old hints i mid
      → IsAppended conduct hint mid {T = Unit {0}} (Err cause) new
      → (r : Result (Unit {0}) AppendError) → r ≡ Err cause
      → (calls : List LogCall) × AreLogCalls conduct old calls new × AppendsHints hints calls r
  one_refused old hints i hint cause mid new lt is are made one r answer =
      let lawful = subst (IsHint Two) (sym is) (All-get_or (IsHint Two) hints i hint lt are) in
      let split : hints ≡ take i hints ++ hint ∷ drop (i + 1) hints =
      sym (take-append-drop i hints) ∙ ap (λ xs. take i hints ++ xs) (drop_more hints i hint lt ∙ ap (λ x. x ∷ drop (i + 1) hints) (sym is)) in (
        appended (take i hints) ++ append_fault hint cause ∷ [],
        then_call old (appended (take i hints)) mid (append_fault hint cause) new made (lawful, one),
        stops (take i hints) hint (drop (i + 1) hints) cause split refl answer,
      )

  pub all_appended : (old : LogView D) (hints : List Hint) (i : ℕ) (new : LogView D) → length hints ≤ i → AreAppended old hints i new
      → (calls : List LogCall) × AreLogCalls conduct old calls new × AppendsHints hints calls (Ok tt)
  all_appended old hints i new all made = (appended (take i hints), made, appends (ap appended (take_all i hints all)) refl)

  -- ---- and the log is flushed

  pub left_unwritten : (old : LogView D) (hints items : List Hint) (new : LogView D) (cause : AppendError) → items ≡ hints
      → (calls : List LogCall) × AreLogCalls conduct old calls new × AppendsHints items calls (Err cause)
      → (e : FlushError) → e ≡ flush_error cause
      → (calls : List LogCall) × AreLogCalls conduct old calls new × WritesHints hints calls (Err e) hints
  left_unwritten old hints items new cause same (calls, made, appends calls_are answer) e error = absurd cc
  left_unwritten old hints items new cause same (calls, made, stops before hint after other split calls_are answer) e error =
      (calls, made, unwritten before hint after other (sym same ∙ split) calls_are (ap Err (error ∙ ap flush_error (let same : cause ≡ other = cc in same))) refl)

  pub then_flush : (old : LogView D) (hints items : List Hint) (mid : LogView D) (call : LogCall) (new : LogView D) → items ≡ hints
      → (calls : List LogCall) × AreLogCalls conduct old calls mid × AppendsHints items calls (Ok tt)
      → IsLogCall conduct mid call new
      → AreLogCalls conduct old (appended hints ++ call ∷ []) new
  then_flush old hints items mid call new same (calls, made, appends calls_are answer) one =
      subst (λ xs. AreLogCalls conduct old (xs ++ call ∷ []) new) (calls_are ∙ ap appended same) (then_call old calls mid call new made one)
  then_flush old hints items mid call new same (calls, made, stops before hint after other split calls_are answer) one = absurd cc
