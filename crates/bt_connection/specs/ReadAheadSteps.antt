-- What one read of the inner reader does.
use Rattle.std.specs.Prelude.{◌≡◌, ℕ, ◌<◌, List, ◌++◌, Option, length, take}
use Rattle.std.specs.Io.KnownBytes.{IsAtEnd, Keeps}
use Rattle.bt_connection.specs.Messages.{Leads, IsBlockLong}
use Rattle.bt_connection.specs.ReadAhead.{ahead_room_length, ReaderState, Takes}

-- `count` bytes came, none at the end, where all that waits may be given
pub record IsRefilled {R : Type 0} (remaining : R → Option (List ℕ)) (old : ReaderState R) (count : ℕ)
    (new : ReaderState R) : Type 0 where
  pub came : List ℕ
  pub size : length came ≡ count
  pub takes : Takes remaining old came new
  pub less : length old.waiting < ahead_room_length
  pub leads : 0 < count → Leads old.owed (take new.ready new.waiting) new.owed
  pub ended : count ≡ 0 → IsAtEnd (remaining new.inner)
  pub all : count ≡ 0 → new.ready ≡ length new.waiting

-- the inner reader keeps its bytes, and all else is as it was
pub record KeepsAll {R : Type 0} (remaining : R → Option (List ℕ)) (old new : ReaderState R) : Type 0 where
  pub kept : Keeps (remaining old.inner) (remaining new.inner)
  pub others : new ≡ record old { inner = new.inner }

-- a message as long as a piece with a whole block is given, which was the first
pub record IsLongGiven {R : Type 0} (old : ReaderState R) (message : List ℕ) (new : ReaderState R)
    : Type 0 where
  pub long : IsBlockLong message
  pub first : old.waiting ≡ message ++ new.waiting
  pub inner : new.inner ≡ old.inner
