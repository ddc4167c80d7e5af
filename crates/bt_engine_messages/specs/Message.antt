-- What a wire event does that changes its peer alone, or nothing.
use Rattle.std.specs.Prelude.{◌≡◌, ℕ, List, [], Option, Some, None, ⊤, slice_get}
use Rattle.bt_book.specs.declared.names.BlockId.{BlockId}
use Rattle.bt_wire.specs.declared.message.Message.{Message as Sent}
use Rattle.bt_wire.specs.declared.message.Message.TheVariants.{KeepAlive, Choke, Unchoke, Interested, NotInterested, Have, Bitfield, Request, Piece, Cancel, HashRequest, Hashes, HashReject}
use Rattle.bt_wire.specs.declared.event.WireEvent.{WireEvent}
use Rattle.bt_wire.specs.declared.event.WireEvent.TheVariants.{Hello, Message, Skipped}
use Rattle.bt_machine.specs.declared.answer.Why.{Why}
use Rattle.bt_machine.specs.State.{PeerState, EngineState}
use Rattle.bt_machine.specs.Blocks.{with_peer}
use Rattle.bt_machine.specs.Output.{Effect, no_effect, closing}
use Rattle.bt_machine.specs.WireEvents.{Handles, HandlesMessage, HandlesHave, HandlesBitfield}
use Rattle.bt_engine_state.specs.Parts.{state_of}
use Rattle.bt_engine_state.specs.declared.peer.Peer.{Peer}
use Rattle.bt_engine_state.specs.declared.parts.Parts.{Parts}
use Rattle.bt_engine_messages.specs.Peer.{as_told}

-- the message changes nothing but its peer
abbrev pub IsOfPeer : Sent → Type 0
IsOfPeer KeepAlive = ⊤
IsOfPeer Choke = ⊤
IsOfPeer Unchoke = ⊤
IsOfPeer Interested = ⊤
IsOfPeer NotInterested = ⊤
IsOfPeer (Have piece) = ⊤
IsOfPeer (Bitfield bytes) = ⊤
IsOfPeer (Request ask) = ⊥
IsOfPeer (Piece piece begin bytes) = ⊥
IsOfPeer (Cancel ask) = ⊤
IsOfPeer (HashRequest key) = ⊥
IsOfPeer (Hashes key digests) = ⊥
IsOfPeer (HashReject key) = ⊤

-- as does the event
abbrev pub IsPeerEvent : WireEvent → Type 0
IsPeerEvent (Hello handshake) = ⊤
IsPeerEvent (Message message) = IsOfPeer message
IsPeerEvent (Skipped kind) = ⊤

-- what the machine does where the peer is closed for this, or stays
abbrev pub closing_if_any : Option Why → Effect
closing_if_any None = no_effect
closing_if_any (Some why) = closing why

-- what a peer is asked for after a message: nothing, where it chokes us
abbrev pub asked_after : Sent → List BlockId → List BlockId
asked_after Choke asked = []
asked_after _ asked = asked

-- the machine makes of the peer at i what the plain one is now, and closes it for this, if for anything
abbrev pub TakesMessage : (List ℕ → List ℕ) → EngineState → ℕ → PeerState → Sent → Peer → Option Why → Type 0
TakesMessage dig s i p message peer closed =
    HandlesMessage dig s i p message [] (closing_if_any closed)
    (with_peer s i (record (as_told p peer) { asked = asked_after message p.asked }))

abbrev pub TakesHave : EngineState → ℕ → PeerState → ℕ → Peer → Option Why → Type 0
TakesHave s i p piece peer closed =
    HandlesHave s i p piece (closing_if_any closed) (with_peer s i (as_told p peer))

abbrev pub TakesBitfield : EngineState → ℕ → PeerState → List ℕ → Peer → Option Why → Type 0
TakesBitfield s i p bytes peer closed =
    HandlesBitfield s i p bytes (closing_if_any closed) (with_peer s i (as_told p peer))

-- ---- over the parts of an engine

-- no device is called, the peer at i is closed for this, if for anything, and the machine comes to the new
-- parts
abbrev pub HandlesOfPeer : {D H : Type 0} → Parts D H → ℕ → WireEvent → Option Why → Parts D H → Type 0
HandlesOfPeer old i event closed new = (dig : List ℕ → List ℕ) (p : PeerState)
    → slice_get (state_of old).peers i ≡ Some p
    → Handles dig (state_of old) i p event [] (closing_if_any closed) (state_of new)
