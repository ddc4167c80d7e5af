-- What follows from the definitions of streams.
use Rattle.std.specs.Prelude.{◌≡◌, Bool, true, false, Option, Some, None, ℕ, List, [], ◌∷◌, ◌++◌}
use Rattle.bt_wire.specs.Handshake.{IsHandshake, handshake_spelling}
use Rattle.bt_wire.specs.Message.{IsMessage, Fits, message_spelling}
use Rattle.bt_wire.specs.Event.{IsEvent, HasNoEvent, ShowsFault, ShowsNoFault}
use Rattle.bt_wire.specs.Cutter.{Stream, new_stream, fed, Takes, Waits, IsAnswer}
use Rattle.bt_wire.specs.declared.handshake.Handshake.{Handshake}
use Rattle.bt_wire.specs.declared.message.Message.{Message as Sent}
use Rattle.bt_wire.specs.declared.event.WireEvent.{WireEvent}
use Rattle.bt_wire.specs.declared.event.WireEvent.TheVariants.{Hello, Message}
use Rattle.bt_wire.specs.declared.event.WireError.{WireError}

-- The bytes are these events, one after the other, and then a rest that begins with none. Where no handshake
-- has come, the first event is one.
abbrev pub IsStream : Bool → List WireEvent → List ℕ → List ℕ → Type 0
IsStream greeted [] rest bytes = (rest ≡ bytes) × HasNoEvent greeted rest
IsStream greeted (e ∷ events) rest bytes =
    (front : List ℕ) × (back : List ℕ)
    × IsEvent greeted e front × (bytes ≡ front ++ back) × IsStream true events rest back

-- two readings of one stream have the same events and the same rest
pub record AreSame (events others : List WireEvent) (rest other : List ℕ) : Type 0 where
  pub events_are : events ≡ others
  pub rest_is : rest ≡ other

abbrev pub StreamsHaveOneReading : Type 0
StreamsHaveOneReading = (greeted : Bool) (events others : List WireEvent) (rest other bytes : List ℕ)
    → IsStream greeted events rest bytes → IsStream greeted others other bytes
    → AreSame events others rest other

-- a call of a cutter that succeeds: `feed`, or `next` with an event
pub data Move : Type 0 where
  feed : List ℕ → Move
  take : WireEvent → Move

-- the bytes that were fed
abbrev pub bytes_in : List Move → List ℕ
bytes_in [] = []
bytes_in (feed bytes ∷ moves) = bytes ++ bytes_in moves
bytes_in (take e ∷ moves) = bytes_in moves

-- the events that were taken
abbrev pub events_in : List Move → List WireEvent
events_in [] = []
events_in (feed bytes ∷ moves) = events_in moves
events_in (take e ∷ moves) = e ∷ events_in moves

-- these calls lead from one stream to another
abbrev pub Leads : List Move → Stream → Stream → Type 0
Leads [] old new = new ≡ old
Leads (feed bytes ∷ moves) old new = Leads moves (fed old bytes) new
Leads (take e ∷ moves) old new = (mid : Stream) × Takes old e mid × Leads moves mid new

-- nothing is left to feed and no event to take, or a fault shows
abbrev pub IsEnd : Stream → List ℕ → Option WireError → Type 0
IsEnd s unfed None = Waits s × (unfed ≡ [])
IsEnd s unfed (Some fault) = ShowsFault s.greeted s.unread fault

-- The bytes were fed to a new cutter in some parts, and its events taken now and then, up to the end or to a
-- fault.
pub record IsCut (bytes : List ℕ) (moves : List Move) (fault : Option WireError) : Type 0 where
  pub last : Stream
  pub unfed : List ℕ
  pub leads : Leads moves new_stream last
  pub whole : bytes_in moves ++ unfed ≡ bytes
  pub ends : IsEnd last unfed fault

-- two ways to cut one stream give one list of events and one fault
pub record AgreeOn (moves others : List Move) (fault other : Option WireError) : Type 0 where
  pub events_are : events_in moves ≡ events_in others
  pub fault_is : fault ≡ other

abbrev pub CuttingMakesNoDifference : Type 0
CuttingMakesNoDifference = (bytes : List ℕ) (moves others : List Move) (fault other : Option WireError)
    → IsCut bytes moves fault → IsCut bytes others other → AgreeOn moves others fault other

-- the events of a cut are those of the whole stream
abbrev pub CutsAreStreams : Type 0
CutsAreStreams = (bytes : List ℕ) (moves : List Move) (fault : Option WireError)
    → IsCut bytes moves fault → (rest : List ℕ) × IsStream false (events_in moves) rest bytes

-- the event that `next` returns, and what is left then
pub record IsTaken (given : Option WireEvent) (e : WireEvent) (unread rest : List ℕ) : Type 0 where
  pub given_is : given ≡ Some e
  pub rest_is : unread ≡ rest

-- only this event can be next, and no fault shows
pub record MustTake (s : Stream) (e : WireEvent) (rest : List ℕ) : Type 0 where
  pub answer : (given : Option WireEvent) (new : Stream)
      → IsAnswer s given new → IsTaken given e new.unread rest
  pub no_fault : ShowsNoFault s.greeted s.unread

-- what is written is read
pub record WritingIsRead : Type 0 where
  pub message : (m : Sent) (rest : List ℕ) (s : Stream) → IsMessage m → Fits m → s.greeted ≡ true
      → s.unread ≡ message_spelling m ++ rest → MustTake s (Message m) rest
  pub handshake : (h : Handshake) (rest : List ℕ) (s : Stream) → IsHandshake h → s.greeted ≡ false
      → s.unread ≡ handshake_spelling h ++ rest → MustTake s (Hello h) rest

-- where a fault shows there is no event and no other fault, and it still shows with more bytes after these
pub record FaultsStandAlone : Type 0 where
  pub no_event : (greeted : Bool) (unread : List ℕ) (fault : WireError)
      → ShowsFault greeted unread fault → HasNoEvent greeted unread
  pub one : (greeted : Bool) (unread : List ℕ) (fault other : WireError)
      → ShowsFault greeted unread fault → ShowsFault greeted unread other → fault ≡ other
  pub stays : (greeted : Bool) (unread more : List ℕ) (fault : WireError)
      → ShowsFault greeted unread fault → ShowsFault greeted (unread ++ more) fault
