-- What leads on without a restart is a list of events, and loses nothing.
use Rattle.std.proofs.Common.{[], ◌≢◌, ℕ, List, ◌∷◌, ◌++◌}
use Rattle.std.proofs.lemmas.List.Elements.{All-append, All-nil, All-push}
use Rattle.bt_disk.specs.Conduct.{Conduct}
use Rattle.bt_machine.specs.Unmarks.{HasNoRestart}
use Rattle.bt_machine.specs.State.{EngineView}
use Rattle.bt_machine.specs.View.{RunsTo, NoEventsRun, OneMoreEventRuns, RunsCompose}
use Rattle.bt_machine.specs.declared.event.Event.{Event}
use Rattle.bt_machine.specs.declared.event.Event.TheVariants.{Restart}
use Rattle.bt_machine.specs.declared.event.Answer.{Answer}
use Rattle.bt_engine.specs.Standing.{RunsStand}
use Rattle.bt_engine.specs.Leads.{LeadsTo, none, one, both, WhatLeadsOnStands}

abbrev IsNoRestart : Event → Type 0
IsNoRestart event = event ≢ Restart

module _ {D : Type 0} (conduct : Conduct D) (dig : List ℕ → List ℕ) where
  pub record SomeRun (old new : EngineView D) : Type 0 where
    pub events : List Event
    pub answers : List Answer
    pub runs : RunsTo conduct dig old events answers new
    pub no_restart : HasNoRestart events

  -- what leads on is a list of events
  pub leads_run : NoEventsRun conduct dig → OneMoreEventRuns conduct dig → RunsCompose conduct dig → {old new : EngineView D} → LeadsTo conduct dig old new → SomeRun old new
  leads_run none_run one_more compose (none engine) = record { events = []; answers = []; runs = none_run engine; no_restart = All-nil IsNoRestart }
  leads_run none_run one_more compose (one old new event answer is_other step) = record {
    events = event ∷ [];
    answers = answer ∷ [];
    runs = one_more old old new [] [] event answer (none_run old) step;
    no_restart = All-push IsNoRestart [] event (All-nil IsNoRestart) is_other;
  }
  leads_run none_run one_more compose (both old mid new first then) =
      let a = leads_run none_run one_more compose first in
      let b = leads_run none_run one_more compose then in record {
        events = a.events ++ b.events;
        answers = a.answers ++ b.answers;
        runs = compose old mid new a.events b.events a.answers b.answers a.runs b.runs;
        no_restart = All-append IsNoRestart a.events b.events a.no_restart b.no_restart;
      }

  -- so it loses nothing
  pub leads_stand : NoEventsRun conduct dig → OneMoreEventRuns conduct dig → RunsCompose conduct dig
      → RunsStand conduct dig → WhatLeadsOnStands conduct dig
  leads_stand none_run one_more compose stand old new sound leads =
      let run = leads_run none_run one_more compose leads in
      stand old new run.events run.answers run.no_restart sound run.runs
