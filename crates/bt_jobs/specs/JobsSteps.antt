-- What the parts of a check are heard to tell: for private steps.
use Rattle.std.specs.Prelude.{◌≡◌, ℕ, ◌*◌, ◌≤◌, List, ◌++◌, Option, length, take}
use Rattle.std.specs.Io.KnownBytes.{Consumes, IsAtEnd}
use Rattle.bt_parts.specs.declared.run.Run.{Run}
use Rattle.bt_jobs.specs.Parts.{IsSeen, PartState}
use Rattle.bt_jobs.specs.PartsSteps.{TurnAll}
use Rattle.bt_jobs.specs.Told.{IsToldBy, TellsEach}
use Rattle.bt_jobs.specs.declared.told.Told.{Told}

-- one read gave `count` bytes, at the front of the buffer: none only where the reader has no more
pub record IsGiven (old new : Option (List ℕ)) (count : ℕ) (buffer : List ℕ) : Type 0 where
  pub within : count ≤ length buffer
  pub taken : Consumes old new (take count buffer)
  pub ended : count ≡ 0 → IsAtEnd new

-- whatever was told by a text before is told with these bytes after it
abbrev pub TakesIn : List ℕ → Told → Told → Type 0
TakesIn bytes before after = (text : List ℕ) → IsToldBy text before → IsToldBy (text ++ bytes) after

-- all bytes that a reader had were taken in
pub record HearsAll (old new : Option (List ℕ)) (before after : Told) : Type 0 where
  pub bytes : List ℕ
  pub taken : Consumes old new bytes
  pub ended : IsAtEnd new
  pub told : TakesIn bytes before after

-- Parts were looked at each time that some of a reader's bytes came, at most `most` at a time, and had not failed.
pub record AreWatched {P : Type 0} (stands : P → PartState → Type 0) (most : ℕ) (old new : Option (List ℕ))
    (before after : List P) : Type 0 where
  pub bytes : List ℕ
  pub taken : Consumes old new bytes
  pub looks : ℕ
  pub often : length bytes ≤ most * looks
  pub seen : (text : List ℕ) → TurnAll stands (IsSeen text 0) (IsSeen text looks) before after

-- all bytes that a reader had are lines that tell these runs, each once
pub record AreHeard (old new : Option (List ℕ)) (runs : List Run) : Type 0 where
  pub text : List ℕ
  pub taken : Consumes old new text
  pub ended : IsAtEnd new
  pub told : TellsEach text runs
