-- The events of a session, and of a flush after it, lead from the engine before it to the one after it.
use Rattle.std.proofs.Common.{ℕ, List, Option}
use Rattle.std.specs.Prelude.{Result}
use Rattle.bt_disk.specs.Conduct.{Conduct}
use Rattle.bt_machine.specs.declared.error.FlushError.{FlushError}
use Rattle.bt_machine.specs.declared.event.Event.TheVariants.{Connect, Flush, Lost}
use Rattle.bt_machine.specs.declared.event.Answer.TheVariants.{Flushed, Lost as LostAnswer}
use Rattle.bt_machine.specs.State.{EngineView}
use Rattle.bt_machine.specs.View.{StepsTo}
use Rattle.bt_session.specs.declared.flushing.Flushing.{Flushing}
use Rattle.bt_session.specs.declared.end.SessionEnd.{SessionEnd}
use Rattle.bt_session.specs.Ends.{IsSession}
use Rattle.bt_session.specs.Progress.{place}
use Rattle.bt_session.specs.Session.{Session, begins, goes_on}
use Rattle.bt_session.proofs.Standing.{no_restart}
use Rattle.bt_engine.specs.Leads.{LeadsTo, one, both}

module _ {D : Type 0} (conduct : Conduct D) (dig : List ℕ → List ℕ) where
  pub events_lead : {key until flushing first events answers last now : _} → Session conduct dig key until flushing first events answers last now
      → LeadsTo conduct dig first now
  events_lead {first} (begins out answer now is step) = one first now Connect answer (λ e. absurd cc) step
  events_lead {key} {until} {flushing} {first} (goes_on events answers last answer event mid now session follows step) =
      both first mid now (events_lead session) (one mid now event answer (no_restart key until flushing _ mid.state last event follows) step)

  -- a whole session, with the removal of its peer
  pub session_leads : (until : _) (flushing : Flushing) (turns : ℕ) (old new : EngineView D) (end : Result SessionEnd FlushError) (remaining left contents written : Option (List ℕ))
      → IsSession conduct dig until flushing turns (place old remaining contents) end (place new left written)
      → LeadsTo conduct dig old new
  session_leads until flushing turns old new end remaining left contents written session =
      both old session.engine new (events_lead session.ended.ran.session)
      (one session.engine new (Lost session.key) (LostAnswer session.removed) (λ e. absurd cc) session.removal)

  -- a flush
  pub flush_leads : (old new : EngineView D) (answer : Result (Unit {0}) FlushError) → StepsTo conduct dig old Flush (Flushed answer) new
      → LeadsTo conduct dig old new
  flush_leads old new answer step = one old new Flush (Flushed answer) (λ e. absurd cc) step
