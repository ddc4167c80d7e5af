-- What one read gives.
use Rattle.std.specs.Prelude.{◌≡◌, ℕ, ◌≤◌, List, Option, length, take}
use Rattle.std.specs.Io.KnownBytes.{Consumes, IsAtEnd}

-- a read put this many bytes at the front of a buffer: none only where there are no more
pub record GivesSome (old new : Option (List ℕ)) (count : ℕ) (buffer : List ℕ) : Type 0 where
  pub within : count ≤ length buffer
  pub taken : Consumes old new (take count buffer)
  pub ended : count ≡ 0 → IsAtEnd new
