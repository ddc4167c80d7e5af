-- What goes out over a connection, byte by byte.
use Rattle.std.specs.Prelude.{◌≡◌, ◌≢◌, ◌⊎◌, ℕ, ◌+◌, ◌-◌, ◌<◌, ◌≤◌, ◌++◌, List, Option, None, MatchOption, length, min, get_or, drop, slice_set}
use Rattle.std.specs.Int.{w32, to_be_bytes}
use Rattle.bt_wire.specs.Event.{IsSent as IsSentMessage}
use Rattle.bt_wire.specs.Frames.{IsRequest, message_length}
use Rattle.bt_wire.specs.declared.message.Ask.{Ask}
use Rattle.bt_wire.specs.declared.message.Message.TheVariants as Wire
use Rattle.bt_wire.specs.declared.frames.TheConstants.{CANCEL}
use Rattle.bt_sockets.specs.declared.outgoing_state.Outgoing.{Outgoing}
use Rattle.bt_sockets.specs.declared.outgoing.Sent.{Sent}
use Rattle.bt_sockets.specs.declared.outgoing.Sent.TheVariants as Told

-- nothing has passed: a handshake of 68 bytes is to come
pub record IsAtBegin (o : Outgoing) : Type 0 where
  pub known : o.known ≡ 0
  pub handshake : o.owed ≡ 68

-- the head of a message is known as far as the message has one
abbrev pub IsHeadWhole : Outgoing → Type 0
IsHeadWhole o = (o.known ≡ 17) ⊎ ((4 ≤ o.known) × (o.known ≡ message_length o.head))

-- the twelve bytes that name a range
abbrev pub ask_spelling : Ask → List ℕ
ask_spelling ask = to_be_bytes w32 ask.piece ++ to_be_bytes w32 ask.begin ++ to_be_bytes w32 ask.length

-- The message with this head, which has a kind, is told so: a request as what it is, a cancel by the range that
-- it names, and any other by its kind.
abbrev pub IsToldAs : List ℕ → Sent → Type 0
IsToldAs head (Told.Request ask) = IsSentMessage (Wire.Request ask) head
IsToldAs head (Told.Cancel ask) = (get_or head 4 0 ≡ CANCEL) × (ask_spelling ask ≡ drop 5 head)
IsToldAs head (Told.Message kind) = (get_or head 4 0 ≡ kind) × (kind ≢ CANCEL) × (¬ IsRequest head)

-- Where a message is whole, it is told, but for one without a kind, and the next one begins; else nothing is done.
pub record IsEnded (old : Outgoing) (sent : Option Sent) (new : Outgoing) : Type 0 where
  pub owes : 0 < old.owed → (sent ≡ None) × (new ≡ old)
  pub part : ¬ IsHeadWhole old → (sent ≡ None) × (new ≡ old)
  pub told : old.owed ≡ 0 → IsHeadWhole old
      → MatchOption sent (old.known ≡ 4) (λ s. (4 < old.known) × IsToldAs old.head s)
  pub begun : old.owed ≡ 0 → IsHeadWhole old → (new.known ≡ 0) × (new.owed ≡ 0)

-- one more byte of a message is known, where it is one of its head; and how many are to come after that is what the
-- message's length leaves, once the head is full
pub record IsPut (old : Outgoing) (byte : ℕ) (new : Outgoing) : Type 0 where
  pub head : old.known < 17 → (new.head ≡ slice_set old.head old.known byte) × (new.known ≡ old.known + 1)
  pub full : old.known ≡ 17 → (new.head ≡ old.head) × (new.known ≡ 17)
  pub part : new.known < 17 → new.owed ≡ 0
  pub left : new.known ≡ 17 → new.owed ≡ message_length new.head - 17

-- Of what is to come of a handshake, or after a head, as many bytes pass as there are; else one passes.
pub record IsTaken (old : Outgoing) (bytes : List ℕ) (count : ℕ) (new : Outgoing) : Type 0 where
  pub owed : 0 < old.owed → (count ≡ min old.owed (length bytes)) × (new.owed ≡ old.owed - count)
      × (new.known ≡ old.known) × (new.head ≡ old.head)
  pub byte : old.owed ≡ 0 → (count ≡ 1) × IsPut old (get_or bytes 0 0) new

-- the first bytes passed, and what is whole by that is told
abbrev pub IsPassed : Outgoing → List ℕ → ℕ → Option Sent → Outgoing → Type 0
IsPassed old bytes count sent new = (mid : Outgoing) × IsTaken old bytes count mid × IsEnded mid sent new
