-- Lists of events that grow by one.
use Rattle.std.proofs.Common.{[], ◌≡◌, ℕ, ◌+◌, ◌<◌, List, ◌∷◌, ◌++◌, length, take, get_or, sym, ap, ◌∙◌, append_assoc, subst}
use Rattle.std.proofs.lemmas.List.{take_more}
use Rattle.bt_disk.specs.Conduct.{Conduct}
use Rattle.bt_machine.specs.declared.event.Event.{Event}
use Rattle.bt_machine.specs.declared.event.Answer.{Answer}
use Rattle.bt_machine.specs.State.{EngineView}
use Rattle.bt_machine.specs.View.{StepsTo, OneMoreEventRuns}
use Rattle.bt_engine.specs.Run.{RunsEvents}

module _ {D : Type 0} (conduct : Conduct D) (dig : List ℕ → List ℕ) where
  -- one more ran, whose answer was added
  pub one_more_ran : OneMoreEventRuns conduct dig → (old mid new : EngineView D) (events : List Event) (i : ℕ) (event : Event) (before after answers : List Answer) (answer : Answer)
      → i < length events → event ≡ get_or events i event → after ≡ answers ++ answer ∷ []
      → RunsEvents conduct dig old (take i events) before answers mid → StepsTo conduct dig mid event answer new
      → RunsEvents conduct dig old (take (i + 1) events) before after new
  one_more_ran one_more old mid new events i event before after answers answer lt is added r step =
      subst (λ (es : List Event). RunsEvents conduct dig old es before after new)
      (ap (λ (e : Event). take i events ++ e ∷ []) is ∙ sym (take_more events i event lt))
      (record {
        said = r.said ++ answer ∷ [];
        behind = added ∙ ap (λ (xs : List Answer). xs ++ answer ∷ []) r.behind ∙ append_assoc before r.said (answer ∷ []);
        runs = one_more old mid new (take i events) r.said event answer r.runs step;
      })
