-- What a peer sends, read ahead of its engine.
use Rattle.std.specs.Prelude.{◌≡◌, ℕ, ◌-◌, ◌<◌, ◌≤◌, ◌⊎◌, min, List, [], ◌++◌, Option, length, take, drop}
use Rattle.std.specs.Io.KnownBytes.{Consumes, IsAtEnd, prepend_known}
use Rattle.bt_wire.specs.declared.handshake.TheConstants.{HANDSHAKE_LEN}
use Rattle.bt_connection.specs.Messages.{IsHeld, Leads}

-- how many bytes there is room for: eight messages of a whole block each, and a part of one more
abbrev pub ahead_room_length : ℕ
ahead_room_length = 135168

-- the inner reader, what was read and is not given, how many of these bytes may be given, and how many
-- are to come yet of a message that is given as it comes
pub record ReaderState (R : Type 0) : Type 0 where
  pub inner : R
  pub waiting : List ℕ
  pub ready : ℕ
  pub owed : ℕ

-- at a connection's beginning
abbrev pub new_reader : {R : Type 0} → R → ReaderState R
new_reader inner = record { inner = inner; waiting = []; ready = 0; owed = HANDSHAKE_LEN }

-- what is to be read of it: what waits, and then what the inner reader has left
abbrev pub reader_remaining : {R : Type 0} → (R → Option (List ℕ)) → ReaderState R → Option (List ℕ)
reader_remaining remaining s = prepend_known s.waiting (remaining s.inner)

-- the first `ready` of the bytes that wait may be given, some where the room is full; what comes after them is kept
pub record IsOrderly (waiting : List ℕ) (ready : ℕ) : Type 0 where
  pub within : ready ≤ length waiting
  pub held : IsHeld (drop ready waiting)
  pub some : ready ≡ 0 → length waiting < ahead_room_length

-- After the bytes that may be given nothing is held back but the beginning of a message that may carry a whole
-- block: what shows a fault is given as it comes.
abbrev pub HoldsBlockAlone : {R : Type 0} → ReaderState R → Type 0
HoldsBlockAlone s = IsHeld (drop s.ready s.waiting)

-- the inner reader gave these bytes, and they wait after the others
pub record Takes {R : Type 0} (remaining : R → Option (List ℕ)) (old : ReaderState R) (came : List ℕ)
    (new : ReaderState R) : Type 0 where
  pub lost : Consumes (remaining old.inner) (remaining new.inner) came
  pub waits : new.waiting ≡ old.waiting ++ came

-- Until something may be given, or to the end; the inner reader is not asked where something may be given.
-- What may be given is told by messages, but for what is left at the end.
pub record IsFilled {R : Type 0} (remaining : R → Option (List ℕ)) (old new : ReaderState R) : Type 0 where
  pub came : List ℕ
  pub takes : Takes remaining old came new
  pub unasked : 0 < old.ready → new ≡ old
  pub ended : new.ready ≡ 0 → IsAtEnd (remaining new.inner) × (new.waiting ≡ [])
  pub leads : old.ready ≡ 0 → (Leads old.owed (take new.ready new.waiting) new.owed)
      ⊎ (IsAtEnd (remaining new.inner) × (new.ready ≡ length new.waiting))

-- of the bytes that may be given, `count` are given, in their order: as many as there is room for
pub record IsGiven {R : Type 0} (old : ReaderState R) (count : ℕ) (buffer : List ℕ) (new : ReaderState R)
    : Type 0 where
  pub count_is : count ≡ min old.ready (length buffer)
  pub first : old.waiting ≡ take count buffer ++ new.waiting
  pub others : new ≡ record old { waiting = new.waiting; ready = old.ready - count }

-- what a read gives: none only where there is no room, or at the end with nothing waiting
pub record IsRead {R : Type 0} (remaining : R → Option (List ℕ)) (old : ReaderState R) (count : ℕ)
    (buffer : List ℕ) (new : ReaderState R) : Type 0 where
  pub filled : ReaderState R
  pub fills : IsFilled remaining old filled
  pub gives : IsGiven filled count buffer new
  pub ended : count ≡ 0 → 0 < length buffer → IsAtEnd (remaining new.inner) × (new.waiting ≡ [])

-- What an error leaves: all that came waits, at the same place in the stream. None comes where something may
-- be given.
pub record LosesNothing {R : Type 0} (remaining : R → Option (List ℕ)) (old new : ReaderState R)
    : Type 0 where
  pub came : List ℕ
  pub takes : Takes remaining old came new
  pub asked : old.ready ≡ 0
  pub none_yet : new.ready ≡ 0
  pub place : new.owed ≡ old.owed
