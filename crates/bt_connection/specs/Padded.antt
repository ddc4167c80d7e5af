-- What a peer sends, read as its engine is to get it, and what an engine sends, written as its peer is to get it.
use Rattle.std.specs.Prelude.{◌≡◌, ℕ, ◌<◌, ◌≤◌, List, [], ◌++◌, Option, length, take, drop}
use Rattle.std.specs.Io.KnownBytes.{Appends, Consumes, IsAtEnd, Keeps}
use Rattle.bt_wire.specs.declared.frames.TheConstants.{BLOCK_MESSAGE_LEN}
use Rattle.bt_wire.specs.declared.message.Ask.{Ask}
use Rattle.bt_connection.specs.declared.translation.Side.{Side}
use Rattle.bt_connection.specs.Flow.{Flow, flow, new_flow}
use Rattle.bt_connection.specs.Translation.{Receives}

-- the inner reader or writer, where the bytes come from, the short blocks, what has come, and what a
-- reader is to give of it yet
pub record PaddedState (T : Type 0) : Type 0 where
  pub inner : T
  pub side : Side
  pub blocks : List Ask
  pub flow : Flow
  pub waiting : List ℕ

-- what of that one direction has, without its inner reader or writer
pub record DirectionState : Type 0 where
  pub side : Side
  pub blocks : List Ask
  pub flow : Flow
  pub waiting : List ℕ

-- the first bytes in its room are to be given on, and those after them came of a frame
abbrev pub direction_state : Side → (blocks : List Ask) → (passing : ℕ) → (room : List ℕ) → (ready : ℕ)
    → DirectionState
direction_state side blocks passing room ready =
    record { side = side; blocks = blocks; flow = flow passing (drop ready room); waiting = take ready room }

abbrev pub padded_state : {T : Type 0} → T → DirectionState → PaddedState T
padded_state inner d =
    record { inner = inner; side = d.side; blocks = d.blocks; flow = d.flow; waiting = d.waiting }

abbrev pub new_padded : {T : Type 0} → Side → T → (blocks : List Ask) → PaddedState T
new_padded side inner blocks =
    record { inner = inner; side = side; blocks = blocks; flow = new_flow; waiting = [] }

-- ---- reads

-- how many bytes there is room for, and the inner reader gives at most at a time: a message with a whole
-- block
abbrev pub frame_room_length : ℕ
frame_room_length = BLOCK_MESSAGE_LEN

-- the inner reader gave these bytes, and what is given on of them waits
pub record TakesPart {R : Type 0} (remaining : R → Option (List ℕ)) (old : PaddedState R) (part : List ℕ)
    (new : PaddedState R) : Type 0 where
  pub given : List ℕ
  pub few : length part ≤ frame_room_length
  pub lost : Consumes (remaining old.inner) (remaining new.inner) part
  pub receives : Receives old.blocks old.side old.flow part new.flow given
  pub waits : new.waiting ≡ old.waiting ++ given
  pub side : new.side ≡ old.side
  pub blocks : new.blocks ≡ old.blocks

-- these bytes, in parts
pub data TakesParts {R : Type 0} (remaining : R → Option (List ℕ)) (first : PaddedState R)
    : List ℕ → PaddedState R → Type 0 where
  none_yet : TakesParts remaining first [] first
  one_more : (came part : List ℕ) (mid now : PaddedState R) → TakesParts remaining first came mid
      → TakesPart remaining mid part now → TakesParts remaining first (came ++ part) now

-- until something waits, or to the end of the inner reader
pub record IsFilled {R : Type 0} (remaining : R → Option (List ℕ)) (old new : PaddedState R) : Type 0 where
  pub came : List ℕ
  pub takes : TakesParts remaining old came new
  pub ended : new.waiting ≡ [] → IsAtEnd (remaining new.inner)

-- `count` of the bytes that wait are given, in their order; none only where there is no room or none waits
pub record IsGiven {R : Type 0} (old : PaddedState R) (count : ℕ) (buffer : List ℕ) (new : PaddedState R)
    : Type 0 where
  pub first : old.waiting ≡ take count buffer ++ new.waiting
  pub all : count ≡ 0 → 0 < length buffer → new.waiting ≡ []
  pub others : new ≡ record old { waiting = new.waiting }

-- what a read gives: none only where there is no room, or at the end of the inner reader
pub record IsRead {R : Type 0} (remaining : R → Option (List ℕ)) (old : PaddedState R) (count : ℕ)
    (buffer : List ℕ) (new : PaddedState R) : Type 0 where
  pub filled : PaddedState R
  pub fills : IsFilled remaining old filled
  pub gives : IsGiven filled count buffer new
  pub ended : count ≡ 0 → 0 < length buffer → IsAtEnd (remaining new.inner)

-- the inner reader keeps its bytes, and all else is as it was
pub record LosesNothing {R : Type 0} (remaining : R → Option (List ℕ)) (old new : PaddedState R)
    : Type 0 where
  pub kept : Keeps (remaining old.inner) (remaining new.inner)
  pub others : new ≡ record old { inner = new.inner }

-- What a failed read leaves, after which the read may be made again: what came before waits, all of it.
pub record KeepsWhatCame {R : Type 0} (remaining : R → Option (List ℕ)) (old new : PaddedState R)
    : Type 0 where
  pub came : List ℕ
  pub mid : PaddedState R
  pub takes : TakesParts remaining old came mid
  pub loses_nothing : LosesNothing remaining mid new

-- ---- writes

-- `count` of the bytes are taken, some where there are any, and what is given on of them is written
pub record IsWritten {W : Type 0} (contents : W → Option (List ℕ)) (old : PaddedState W) (bytes : List ℕ)
    (count : ℕ) (new : PaddedState W) : Type 0 where
  pub given : List ℕ
  pub few : count ≤ length bytes
  pub some : count ≡ 0 → bytes ≡ []
  pub receives : Receives old.blocks old.side old.flow (take count bytes) new.flow given
  pub appended : Appends (contents old.inner) (contents new.inner) given
  pub others : new ≡ record old { inner = new.inner; flow = new.flow }

-- nothing is written
pub record IsFlushed {W : Type 0} (contents : W → Option (List ℕ)) (old new : PaddedState W) : Type 0 where
  pub kept : Keeps (contents old.inner) (contents new.inner)
  pub others : new ≡ record old { inner = new.inner }
