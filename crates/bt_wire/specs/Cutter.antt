-- What a cutter means, and what its calls do.
use Rattle.std.specs.Prelude.{◌≡◌, Bool, true, false, Option, Some, None, ℕ, List, [], ◌++◌}
use Rattle.bt_wire.specs.Message.{CarriesBytes}
use Rattle.bt_wire.specs.Event.{IsEvent, HasNoEvent, ShowsFault, ShowsNoFault}
use Rattle.bt_wire.specs.declared.message.Message.{Message as Sent}
use Rattle.bt_wire.specs.declared.event.WireEvent.{WireEvent}
use Rattle.bt_wire.specs.declared.event.WireEvent.TheVariants.{Message}
use Rattle.bt_wire.specs.declared.event.WireError.{WireError}
use Rattle.bt_wire.specs.declared.event.WireError.TheVariants.{BadProtocol, TooLong, BadLength, OutOfMemory, Failed}

-- the bytes whose events are not taken, whether the handshake has come, and whether a fault was returned
pub record Stream : Type 0 where
  pub unread : List ℕ
  pub greeted : Bool
  pub failed : Bool

abbrev pub stream : List ℕ → Bool → Bool → Stream
stream unread greeted failed = record { unread = unread; greeted = greeted; failed = failed }

abbrev pub new_stream : Stream
new_stream = stream [] false false

-- a stream with more unread bytes at the end
abbrev pub fed : Stream → List ℕ → Stream
fed s bytes = record s { unread = s.unread ++ bytes }

-- the first event is taken from the unread bytes
pub record Takes (old : Stream) (e : WireEvent) (new : Stream) : Type 0 where
  pub bytes : List ℕ
  pub event : IsEvent old.greeted e bytes
  pub front : old.unread ≡ bytes ++ new.unread
  pub running : old.failed ≡ false
  pub greeted : new.greeted ≡ true
  pub not_failed : new.failed ≡ false

-- a message that carries bytes stands first in the unread ones
abbrev pub AwaitsMemory : Stream → Type 0
AwaitsMemory s = (m : Sent) × (rest : Stream) × Takes s (Message m) rest × CarriesBytes m

-- no event is whole, and no fault shows
pub record Waits (s : Stream) : Type 0 where
  pub running : s.failed ≡ false
  pub no_event : HasNoEvent s.greeted s.unread
  pub no_fault : ShowsNoFault s.greeted s.unread

-- a fault shows, and from then on the stream has failed
pub record Fails (old : Stream) (fault : WireError) (new : Stream) : Type 0 where
  pub running : old.failed ≡ false
  pub shown : ShowsFault old.greeted old.unread fault
  pub after : new ≡ record old { failed = true }

-- what `next` returns of a stream
abbrev pub IsAnswer : Stream → Option WireEvent → Stream → Type 0
IsAnswer old (Some e) new = Takes old e new
IsAnswer old None new = Waits old × (new ≡ old)

-- why it returns an error
abbrev pub IsRefusal : Stream → WireError → Stream → Type 0
IsRefusal old BadProtocol new = Fails old BadProtocol new
IsRefusal old TooLong new = Fails old TooLong new
IsRefusal old BadLength new = Fails old BadLength new
IsRefusal old OutOfMemory new = AwaitsMemory old × (new ≡ old)
IsRefusal old Failed new = (old.failed ≡ true) × (new ≡ old)

-- why `feed` returns an error
abbrev pub IsFeedRefusal : Stream → WireError → Type 0
IsFeedRefusal old OutOfMemory = old.failed ≡ false
IsFeedRefusal old Failed = old.failed ≡ true
IsFeedRefusal _ _ = ⊥
