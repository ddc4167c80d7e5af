-- What is taken of a peer that is heard out.
use Rattle.std.specs.Prelude.{◌≡◌, ℕ, ◌≤◌, List, Option, length}
use Rattle.std.specs.Io.KnownBytes.{Consumes}

-- of what a reader has left it lost just so many bytes
abbrev pub Loses : ℕ → Option (List ℕ) → Option (List ℕ) → Type 0
Loses count old new = (bytes : List ℕ) × (length bytes ≡ count) × Consumes old new bytes

-- of what a reader has left it lost some bytes, and no more than so many
abbrev pub LosesAtMost : ℕ → Option (List ℕ) → Option (List ℕ) → Type 0
LosesAtMost most old new = (bytes : List ℕ) × (length bytes ≤ most) × Consumes old new bytes
