-- Lemmas on files that are taken in where their blocks wait, one after the other.
use Rattle.std.proofs.Common.{[], ◌≡◌, ℕ, ◌+◌, List}
use Rattle.bt_disk.specs.Conduct.{Conduct}
use Rattle.bt_machine.specs.declared.event.Event.TheVariants.{Adopt}
use Rattle.bt_machine.specs.declared.event.Answer.{Answer}
use Rattle.bt_machine.specs.State.{EngineView}
use Rattle.bt_machine.specs.Shape.{IsShaped}
use Rattle.bt_machine.specs.View.{StepsTo}
use Rattle.bt_machine.proofs.Shape.{step_shape}
use Rattle.bt_files.specs.Adoption.{IsTakenIn}
use Rattle.bt_files.specs.Waiting.{MayHaveWaitingPiece, TakesInWaiting, none_yet, passed, taken}

module _ {D : Type 0} (conduct : Conduct D) (dig : List ℕ → List ℕ) where
  -- the first `count` files were seen to, and no peer is connected
  pub record IsSeeing (first : EngineView D) (count : ℕ) (now : EngineView D) : Type 0 where
    pub seen : TakesInWaiting conduct dig first count now
    pub shaped : IsShaped first.state.torrent now.state
    pub no_peer : now.state.peers ≡ []

  pub seeing_none : (first : EngineView D) → IsShaped first.state.torrent first.state → first.state.peers ≡ []
      → IsSeeing first 0 first
  seeing_none first shaped none = record { seen = none_yet; shaped = shaped; no_peer = none }

  pub seeing_passed : (first now : EngineView D) (count : ℕ) → IsSeeing first count now → ¬ MayHaveWaitingPiece now.state count
      → IsSeeing first (count + 1) now
  seeing_passed first now count seeing other = record {
    seen = passed count now seeing.seen other;
    shaped = seeing.shaped;
    no_peer = seeing.no_peer;
  }

  pub seeing_taken : (first mid new : EngineView D) (count : ℕ) (answer : Answer) → IsSeeing first count mid
      → MayHaveWaitingPiece mid.state count → StepsTo conduct dig mid (Adopt count) answer new → IsTakenIn answer
      → new.state.peers ≡ [] → IsSeeing first (count + 1) new
  seeing_taken first mid new count answer seeing waits step good none = record {
    seen = taken count mid new answer seeing.seen waits step good;
    shaped = step_shape dig (Adopt count) step.calls answer seeing.shaped step.step;
    no_peer = none;
  }

  -- the torrent stays, also with the next file
  pub seeing_torrent : (first mid new : EngineView D) (count : ℕ) (answer : Answer) → IsSeeing first count mid
      → StepsTo conduct dig mid (Adopt count) answer new → new.state.torrent ≡ first.state.torrent
  seeing_torrent first mid new count answer seeing step =
      (step_shape dig (Adopt count) step.calls answer seeing.shaped step.step).same
