-- What is sent to the peer at a place when an event is over.
use Rattle.std.specs.Prelude.{◌≡◌, ℕ, ◌+◌, List, ◌++◌}
use Rattle.bt_book.specs.Book.{max_requests}
use Rattle.bt_machine.specs.State.{EngineState}
use Rattle.bt_machine.specs.Output.{Sent}
use Rattle.bt_machine.specs.FollowUp.{FollowsUp}

-- one that tells our interest, a hash request, and the requests of blocks
abbrev pub max_frames : ℕ
max_frames = 2 + max_requests

-- frames are sent after those before, and the engine changes, as follows from an event
pub record SendsFollowUp (dig : List ℕ → List ℕ) (s : EngineState) (i : ℕ) (before after : List Sent)
    (new : EngineState) : Type 0 where
  pub sent : List Sent
  pub follows : FollowsUp dig s i sent new
  pub behind : after ≡ before ++ sent
