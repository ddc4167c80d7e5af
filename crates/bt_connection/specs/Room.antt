-- Room for bytes that wait.
use Rattle.std.specs.Prelude.{◌≡◌, ℕ, List, ◌++◌, Option, length}
use Rattle.std.specs.Io.KnownBytes.{Consumes}

-- `count` bytes came of a reader, and stand after the others
pub record IsTakenIn (before after : Option (List ℕ)) (old : List ℕ) (count : ℕ) (new : List ℕ) : Type 0 where
  pub came : List ℕ
  pub size : length came ≡ count
  pub lost : Consumes before after came
  pub behind : new ≡ old ++ came
