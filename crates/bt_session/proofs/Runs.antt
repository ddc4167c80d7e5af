-- A session is a run of its events.
use Rattle.std.proofs.Common.{[], ℕ, List}
use Rattle.bt_disk.specs.Conduct.{Conduct}
use Rattle.bt_machine.specs.declared.event.Event.TheVariants.{Connect}
use Rattle.bt_machine.specs.View.{NoEventsRun, OneMoreEventRuns}
use Rattle.bt_session.specs.Session.{SessionsAreRuns, begins, goes_on}

module _ {D : Type 0} (conduct : Conduct D) (dig : List ℕ → List ℕ) (none : NoEventsRun conduct dig)
    (one_more : OneMoreEventRuns conduct dig) where
  -- a session is a run of its events
  pub session_runs : SessionsAreRuns conduct dig
  session_runs key until flushing first _ _ _ _ (begins out answer now is step) =
      one_more first first now [] [] Connect answer (none first) step
  session_runs key until flushing first _ _ _ _ (goes_on events answers last answer event mid now session follows step) =
      one_more first mid now events answers event answer
      (session_runs key until flushing first events answers last mid session) step
