-- What stands at the front of the unread bytes.
use Rattle.std.specs.Prelude.{◌≡◌, ◌⊎◌, ℕ, ◌≤◌, Bool, true, false, Option, Some, None, List, length, take}
use Rattle.bt_wire.specs.declared.message.TheConstants.{MAX_LENGTH_FIELD}
use Rattle.bt_wire.specs.declared.handshake.TheConstants.{HANDSHAKE_LEN}
use Rattle.bt_wire.specs.Message.{Body, length_field, frame_spelling, IsKnownKind, HasPayloadLength, CarriesBytes}
use Rattle.bt_wire.specs.Event.{IsEvent, HasNoEvent, ShowsFault, ShowsNoFault}
use Rattle.bt_wire.specs.declared.handshake.Handshake.{Handshake}
use Rattle.bt_wire.specs.declared.message.Message.{Message as Sent}
use Rattle.bt_wire.specs.declared.event.WireEvent.{WireEvent}
use Rattle.bt_wire.specs.declared.event.WireEvent.TheVariants.{Hello, Message}
use Rattle.bt_wire.specs.declared.event.WireError.{WireError}
use Rattle.bt_wire.specs.declared.event.WireError.TheVariants.{OutOfMemory}

-- a payload of that length fits the kind, if it is known
abbrev pub FitsKind : ℕ → ℕ → Type 0
FitsKind kind n = IsKnownKind kind → HasPayloadLength kind n

-- the kind is known, and a payload of that length does not fit it
abbrev pub IsMisfit : ℕ → ℕ → Type 0
IsMisfit kind n = IsKnownKind kind × ¬ HasPayloadLength kind n

abbrev pub FitsBody : Option Body → Type 0
FitsBody None = Unit {0}
FitsBody (Some b) = FitsKind b.kind (length b.payload)

-- a frame that shows no fault
pub record IsLawfulFrame (bytes : List ℕ) : Type 0 where
  pub body : Option Body
  pub limit : length_field body ≤ MAX_LENGTH_FIELD
  pub fits : FitsBody body
  pub spelled : bytes ≡ frame_spelling body

-- the first n bytes are a frame that shows no fault
pub record BeginsLawfulFrame (unread : List ℕ) (n : ℕ) : Type 0 where
  pub inside : n ≤ length unread
  pub frame : IsLawfulFrame (take n unread)

-- the first n bytes are an event's
pub record BeginsEvent (greeted : Bool) (unread : List ℕ) (e : WireEvent) (n : ℕ) : Type 0 where
  pub inside : n ≤ length unread
  pub event : IsEvent greeted e (take n unread)

-- the first bytes are this event's, and there are as many of them as the number says
abbrev pub BeginsWith : Bool → List ℕ → WireEvent × ℕ → Type 0
BeginsWith greeted unread first = BeginsEvent greeted unread first.0 first.1

-- the first bytes are this handshake
abbrev pub BeginsHandshake : List ℕ → Handshake → Type 0
BeginsHandshake unread h = BeginsEvent false unread (Hello h) HANDSHAKE_LEN

-- neither an event is there nor a fault
pub record IsPartial (greeted : Bool) (unread : List ℕ) : Type 0 where
  pub no_event : HasNoEvent greeted unread
  pub no_fault : ShowsNoFault greeted unread

-- a message that carries bytes is there, for which memory was refused
abbrev pub HasFront : Bool → List ℕ → Type 0
HasFront greeted unread = (m : Sent) × (n : ℕ) × BeginsEvent greeted unread (Message m) n × CarriesBytes m

-- these bytes are such a message's
abbrev pub HasFrame : List ℕ → Type 0
HasFrame bytes = (m : Sent) × IsEvent true (Message m) bytes × CarriesBytes m

-- why no event is returned
abbrev pub IsFrontRefusal : Bool → List ℕ → WireError → Type 0
IsFrontRefusal greeted unread error =
    ((error ≡ OutOfMemory) × HasFront greeted unread) ⊎ ShowsFault greeted unread error
