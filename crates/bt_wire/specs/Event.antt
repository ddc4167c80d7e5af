-- What a stream of the peer wire says (BEP 3): a handshake and then messages, each in bytes of its own.
use Rattle.std.specs.Prelude.{◌≡◌, ◌≢◌, ℕ, ◌+◌, ◌^◌, ◌<◌, ◌≤◌, Bool, true, false, List, ◌∷◌, ◌++◌, length, slice_index}
use Rattle.std.specs.Int.{w32, to_be_bytes}
use Rattle.bt_wire.specs.Limits.{reserved_length}
use Rattle.bt_wire.specs.declared.message.TheConstants.{MAX_LENGTH_FIELD}
use Rattle.bt_wire.specs.Handshake.{protocol, handshake_with, IsHandshake}
use Rattle.bt_wire.specs.Message.{IsMessage, Fits, IsKnownKind, HasPayloadLength, body, frame_spelling, message_spelling}
use Rattle.bt_wire.specs.declared.handshake.Handshake.{Handshake}
use Rattle.bt_wire.specs.declared.message.Message.{Message as Sent}
use Rattle.bt_wire.specs.declared.event.WireEvent.{WireEvent}
use Rattle.bt_wire.specs.declared.event.WireEvent.TheVariants.{Hello, Message, Skipped}
use Rattle.bt_wire.specs.declared.event.WireError.{WireError}
use Rattle.bt_wire.specs.declared.event.WireError.TheVariants.{BadProtocol, TooLong, BadLength}

-- the bytes of a handshake, whatever its reserved bytes
pub record IsHello (h : Handshake) (bytes : List ℕ) : Type 0 where
  pub reserved : List ℕ
  pub is_handshake : IsHandshake h
  pub eight : length reserved ≡ reserved_length
  pub spelled : bytes ≡ handshake_with reserved h

-- the bytes of a message that fits
pub record IsSent (m : Sent) (bytes : List ℕ) : Type 0 where
  pub is_message : IsMessage m
  pub fits : Fits m
  pub spelled : bytes ≡ message_spelling m

-- the bytes of a kind that no message has, with any payload within the limit
pub record IsSkipped (kind : ℕ) (bytes : List ℕ) : Type 0 where
  pub payload : List ℕ
  pub unknown : ¬ IsKnownKind kind
  pub limit : 1 + length payload ≤ MAX_LENGTH_FIELD
  pub spelled : bytes ≡ frame_spelling (body kind payload)

-- the bytes of an event: a handshake where none has come, else a message
abbrev pub IsEvent : Bool → WireEvent → List ℕ → Type 0
IsEvent false (Hello h) bytes = IsHello h bytes
IsEvent true (Message m) bytes = IsSent m bytes
IsEvent true (Skipped kind) bytes = IsSkipped kind bytes
IsEvent _ _ _ = ⊥

-- the unread bytes begin with no event
abbrev pub HasNoEvent : Bool → List ℕ → Type 0
HasNoEvent greeted unread =
    (e : WireEvent) (bytes rest : List ℕ) → IsEvent greeted e bytes → unread ≢ bytes ++ rest

-- one of the first twenty bytes is there, and is not the protocol's
pub record ShowsBadProtocol (unread : List ℕ) : Type 0 where
  pub place : ℕ
  pub in_protocol : place < length protocol
  pub there : place < length unread
  pub differs : slice_index unread place ≢ slice_index protocol place

-- a length field is there, and is above the limit
pub record ShowsTooLong (unread : List ℕ) : Type 0 where
  pub field : ℕ
  pub rest : List ℕ
  pub number : field < 2 ^ 32
  pub above : MAX_LENGTH_FIELD < field
  pub front : unread ≡ to_be_bytes w32 field ++ rest

-- a length field and a kind are there, and no message of that kind has that length
pub record ShowsBadLength (unread : List ℕ) : Type 0 where
  pub kind : ℕ
  pub size : ℕ
  pub rest : List ℕ
  pub limit : 1 + size ≤ MAX_LENGTH_FIELD
  pub known : IsKnownKind kind
  pub misfit : ¬ HasPayloadLength kind size
  pub front : unread ≡ to_be_bytes w32 (1 + size) ++ kind ∷ rest

-- the faults that the unread bytes show
abbrev pub ShowsFault : Bool → List ℕ → WireError → Type 0
ShowsFault false unread BadProtocol = ShowsBadProtocol unread
ShowsFault true unread TooLong = ShowsTooLong unread
ShowsFault true unread BadLength = ShowsBadLength unread
ShowsFault _ _ _ = ⊥

abbrev pub ShowsNoFault : Bool → List ℕ → Type 0
ShowsNoFault greeted unread = (fault : WireError) → ¬ ShowsFault greeted unread fault
