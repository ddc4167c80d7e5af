-- All is begun anew from the log, which is read again first.
use Rattle.std.specs.Prelude.{[], ◌≡◌, true, false, ℕ, List, ◌∷◌, map, Result, Ok, Err}
use Rattle.bt_resume.specs.declared.hint.Hint.{Hint}
use Rattle.bt_resume.specs.declared.error.LogError.{LogError}
use Rattle.bt_machine.specs.declared.error.RestartError.{RestartError}
use Rattle.bt_machine.specs.declared.error.RestartError.TheVariants.{Log, OutOfMemory}
use Rattle.bt_machine.specs.State.{EngineState}
use Rattle.bt_machine.specs.LogCalls.{LogCall, hints_read, reload_fault, EventCalls}
use Rattle.bt_machine.specs.Recovery.{Recovers}

-- the log, where there is one, was read again, with these hints
pub data ReadsAgain (s : EngineState) (log : List LogCall) (hints : List Hint) : Type 0 where
  read : s.logged ≡ true → log ≡ hints_read hints ∷ [] → ReadsAgain s log hints
  none : s.logged ≡ false → log ≡ [] → hints ≡ [] → ReadsAgain s log hints

-- the trees stand where those of the same roots and lengths stood, and each file has its tree there
pub record KeepsPlaces (old new : EngineState) : Type 0 where
  pub roots : map (λ k. k.root) new.trees ≡ map (λ k. k.root) old.trees
  pub lengths : map (λ k. k.file_length) new.trees ≡ map (λ k. k.file_length) old.trees
  pub trees : map (λ f. f.tree) new.files ≡ map (λ f. f.tree) old.files

-- A refusal changes nothing, but that after out of memory the log is as it was read.
pub data StepRestart (dig : List ℕ → List ℕ) (s : EngineState) (calls : EventCalls)
    (answer : Result (Unit {0}) RestartError) (new : EngineState) : Type 0 where
  restarts : (hints : List Hint) → ReadsAgain s calls.log hints → Recovers dig s hints calls.devices new
      → KeepsPlaces s new → answer ≡ Ok tt → StepRestart dig s calls answer new
  unread : (cause : LogError) → s.logged ≡ true
      → calls ≡ record { devices = []; log = reload_fault cause ∷ [] } → answer ≡ Err (Log cause) → new ≡ s
      → StepRestart dig s calls answer new
  no_memory : (hints : List Hint) → ReadsAgain s calls.log hints → calls.devices ≡ []
      → answer ≡ Err OutOfMemory → new ≡ record s { hints = hints } → StepRestart dig s calls answer new
