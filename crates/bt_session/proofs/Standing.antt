-- No event of a session is a restart, so a session loses nothing.
use Rattle.std.proofs.Common.{[], ◌≢◌, ℕ, Bool, true, false, List, ◌∷◌, ◌++◌, Some, None}
use Rattle.std.specs.Prelude.{Ok}
use Rattle.std.proofs.lemmas.List.Elements.{All-nil, All-push}
use Rattle.bt_disk.specs.Conduct.{Conduct}
use Rattle.bt_machine.specs.declared.event.Event.{Event}
use Rattle.bt_machine.specs.declared.event.Event.TheVariants.{Connect, Lost, Restart}
use Rattle.bt_machine.specs.declared.event.Answer.{Answer}
use Rattle.bt_machine.specs.declared.event.Answer.TheVariants.{Connected, Fed, Stepped, Rechoked, Flushed, Lost as LostAnswer}
use Rattle.bt_machine.specs.Unmarks.{HasNoRestart}
use Rattle.bt_machine.specs.View.{NoEventsRun, OneMoreEventRuns}
use Rattle.bt_engine.specs.Standing.{RunsStand}
use Rattle.bt_session.specs.LawSteps.{SessionsStand}
use Rattle.bt_session.specs.Flushing.{is_flush_due}
use Rattle.bt_session.specs.Session.{Session, Follows, FollowsTurn, begins, goes_on}
use Rattle.bt_session.proofs.Runs.{session_runs}

abbrev IsNoRestart : Event → Type 0
IsNoRestart event = event ≢ Restart

-- ---- what follows in a session is no restart

turn_no_restart : (due : Bool) (key event : _) → FollowsTurn due key event → event ≢ Restart
turn_no_restart true key event follows e = absurd cc
turn_no_restart false key event follows e = let fed = follows.3 in absurd cc

pub no_restart : (key until flushing taken s : _) (last : Answer) (event : Event) → Follows key until flushing taken s last event → event ≢ Restart
no_restart key until flushing taken s (Connected (Ok joined)) event follows e = let fed = follows.1.3 in absurd cc
no_restart key until flushing taken s (Fed (Ok done)) event follows e = absurd cc
no_restart key until flushing taken s (Stepped (Ok (Some out))) event follows e = let is = follows.2 in absurd cc
no_restart key until flushing taken s (Stepped (Ok None)) event follows e = absurd cc
no_restart key until flushing taken s (Rechoked (Ok out)) event follows e = turn_no_restart (is_flush_due flushing taken) key event follows e
no_restart key until flushing taken s (Flushed (Ok done)) event follows e = let fed = follows.3 in absurd cc
no_restart key until flushing taken s _ event follows e = absurd follows

-- ---- what stands

module _ {D : Type 0} (conduct : Conduct D) (dig : List ℕ → List ℕ) where
  no_restarts : {key until flushing first events answers last now : _} → Session conduct dig key until flushing first events answers last now
      → HasNoRestart events
  no_restarts (begins out answer now is step) = All-push IsNoRestart [] Connect (All-nil IsNoRestart) (λ e. absurd cc)
  no_restarts {key} {until} {flushing} (goes_on events answers last answer event mid now session follows step) =
      All-push IsNoRestart events event (no_restarts session) (no_restart key until flushing _ mid.state last event follows)

  -- a whole session is a run, with the removal of its peer at the end
  pub sessions_stand : NoEventsRun conduct dig → OneMoreEventRuns conduct dig → RunsStand conduct dig
      → SessionsStand conduct dig
  sessions_stand none_run one_more stand until flushing given first last end sound session =
      let ran = session.ended.ran in
      stand first.engine last.engine (ran.events ++ Lost session.key ∷ []) (ran.answers ++ LostAnswer session.removed ∷ [])
      (All-push IsNoRestart ran.events (Lost session.key) (no_restarts ran.session) (λ e. absurd cc)) sound
      (one_more first.engine session.engine last.engine ran.events ran.answers (Lost session.key) (LostAnswer session.removed)
      (session_runs conduct dig none_run one_more session.key until flushing first.engine ran.events ran.answers session.ended.last session.engine ran.session)
      session.removal)
