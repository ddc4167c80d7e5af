-- What is found in bytes that wait.
use Rattle.std.specs.Prelude.{ℕ, ◌<◌, ◌≤◌, List, All, length, drop}
use Rattle.bt_connection.specs.Messages.{IsHeld, IsLongAt}
use Rattle.bt_connection.specs.ReadAhead.{ahead_room_length}
use Rattle.bt_connection.specs.declared.messages.Cut.{Cut}

-- what is held back may carry a whole block and is not whole, and of bytes that fill the room some may be given
pub record IsCut (bytes : List ℕ) (c : Cut) : Type 0 where
  pub within : c.ready ≤ length bytes
  pub held : IsHeld (drop c.ready bytes)
  pub some : ahead_room_length ≤ length bytes → 0 < c.ready

-- at each of these places that is left yet a message as long as a piece with a whole block begins, and all of it
-- may be given
pub record HasLong (bytes : List ℕ) (ready : ℕ) (lefts : List ℕ) : Type 0 where
  pub each : All (λ left. left ≤ length bytes → IsLongAt bytes ready left) lefts
