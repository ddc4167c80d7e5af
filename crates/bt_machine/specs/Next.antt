-- The next wire event of a peer is taken.
use Rattle.std.specs.Prelude.{[], ◌≡◌, ℕ, ◌+◌, List, ◌++◌, map, take, drop, if◌then◌else◌, Option, Some, None, Result, Ok, Err, slice_get}
use Rattle.bt_book.specs.declared.names.PeerKey.{PeerKey}
use Rattle.bt_wire.specs.Cutter.{Stream, Takes, Waits, Fails}
use Rattle.bt_wire.specs.declared.event.WireEvent.{WireEvent}
use Rattle.bt_wire.specs.declared.event.WireError.{WireError}
use Rattle.bt_machine.specs.declared.answer.Why.{Why}
use Rattle.bt_machine.specs.declared.answer.Why.TheVariants.{Wire}
use Rattle.bt_machine.specs.declared.answer.Note.TheVariants.{Complete}
use Rattle.bt_machine.specs.declared.error.EngineError.{EngineError}
use Rattle.bt_machine.specs.declared.error.EngineError.TheVariants.{NoPeer, OutOfMemory}
use Rattle.bt_machine.specs.Hints.{add_hints}
use Rattle.bt_machine.specs.State.{PeerState, EngineState, Hint, mark_of}
use Rattle.bt_machine.specs.Devices.{DeviceCalls}
use Rattle.bt_machine.specs.Blocks.{with_peer, new_complete_files, new_marked_blocks}
use Rattle.bt_machine.specs.Output.{Sent, Output, Effect, haves}
use Rattle.bt_machine.specs.WireEvents.{Handles}
use Rattle.bt_machine.specs.FollowUp.{FollowsUp}

-- the peer of this key stands at i
pub record IsPeer (s : EngineState) (key : PeerKey) (i : ℕ) (p : PeerState) : Type 0 where
  pub here : slice_get s.peers i ≡ Some p
  pub same_key : p.key ≡ key

abbrev pub HasNoPeer : EngineState → PeerKey → Type 0
HasNoPeer s key = (i : ℕ) (p : PeerState) → ¬ IsPeer s key i p

-- without the peer at i, and so without what it was asked for
abbrev pub without_peer : ℕ → EngineState → EngineState
without_peer i s = record s { peers = take i s.peers ++ drop (i + 1) s.peers }

-- with a log, these proofs are pending, and then a mark for each block that was marked since the old engine
abbrev pub with_pending : EngineState → EngineState → List Hint → EngineState
with_pending old s proofs = record s {
  pending = add_hints s.pending
      (if s.logged then proofs ++ map (λ b. mark_of b) (new_marked_blocks old s) else []);
}

-- an event stands first in the peer's bytes; it is taken from them and handled
pub record TakesEvent (dig : List ℕ → List ℕ) (s : EngineState) (i : ℕ) (p : PeerState)
    (calls : DeviceCalls) (effect : Effect) (handled : EngineState) : Type 0 where
  pub event : WireEvent
  pub rest : Stream
  pub takes : Takes p.stream event rest
  pub handles : Handles dig (with_peer s i (record p { stream = rest })) i (record p { stream = rest }) event
      calls effect handled

-- The peer stays: what the event sends, then a have of each piece that has become whole, then what follows
-- for the peer. The notes of the event come first, then the files that have become complete.
pub record KeepsPeer (dig : List ℕ → List ℕ) (s : EngineState) (i : ℕ) (p : PeerState)
    (calls : DeviceCalls) (out : Output) (new : EngineState) : Type 0 where
  pub effect : Effect
  pub handled : EngineState
  pub sent : List Sent
  pub takes : TakesEvent dig s i p calls effect handled
  pub stays : effect.close ≡ None
  pub follows : FollowsUp dig (with_pending s handled effect.proofs) i sent new
  pub send : out.send ≡ effect.send ++ haves s handled ++ sent
  pub close : out.close ≡ None
  pub notes : out.notes ≡ effect.notes ++ map (λ file. Complete file) (new_complete_files s handled)

-- The event closes the peer, and nothing is sent.
pub record Closes (dig : List ℕ → List ℕ) (s : EngineState) (i : ℕ) (p : PeerState)
    (calls : DeviceCalls) (out : Output) (new : EngineState) : Type 0 where
  pub effect : Effect
  pub handled : EngineState
  pub why : Why
  pub takes : TakesEvent dig s i p calls effect handled
  pub closed : effect.close ≡ Some why
  pub is : out ≡ record { send = []; close = Some why; notes = effect.notes }
  pub after : new ≡ without_peer i handled

-- Its bytes show a fault of the wire, which closes the peer.
pub record ShowsFault (s : EngineState) (i : ℕ) (p : PeerState) (calls : DeviceCalls) (out : Output)
    (new : EngineState) : Type 0 where
  pub fault : WireError
  pub failed : Stream
  pub fails : Fails p.stream fault failed
  pub made : calls ≡ []
  pub is : out ≡ record { send = []; close = Some (Wire fault); notes = [] }
  pub after : new ≡ without_peer i s

-- Out of memory: the event that stands there is dropped, and its peer with it, and nothing else changes.
pub record DropsPeer (s : EngineState) (i : ℕ) (p : PeerState) (calls : DeviceCalls) (new : EngineState)
    : Type 0 where
  pub event : WireEvent
  pub rest : Stream
  pub takes : Takes p.stream event rest
  pub made : calls ≡ []
  pub after : new ≡ without_peer i s

pub data StepNext (dig : List ℕ → List ℕ) (s : EngineState) (key : PeerKey) (calls : DeviceCalls)
    (answer : Result (Option Output) EngineError) (new : EngineState) : Type 0 where
  no_peer : HasNoPeer s key → calls ≡ [] → answer ≡ Err NoPeer → new ≡ s → StepNext dig s key calls answer new
  waits : (i : ℕ) (p : PeerState) → IsPeer s key i p → Waits p.stream → calls ≡ [] → answer ≡ Ok None
      → new ≡ s → StepNext dig s key calls answer new
  keeps_peer : (i : ℕ) (p : PeerState) (out : Output) → IsPeer s key i p → KeepsPeer dig s i p calls out new
      → answer ≡ Ok (Some out) → StepNext dig s key calls answer new
  closes : (i : ℕ) (p : PeerState) (out : Output) → IsPeer s key i p → Closes dig s i p calls out new
      → answer ≡ Ok (Some out) → StepNext dig s key calls answer new
  faulty : (i : ℕ) (p : PeerState) (out : Output) → IsPeer s key i p → ShowsFault s i p calls out new
      → answer ≡ Ok (Some out) → StepNext dig s key calls answer new
  no_memory : (i : ℕ) (p : PeerState) → IsPeer s key i p → DropsPeer s i p calls new
      → answer ≡ Err OutOfMemory → StepNext dig s key calls answer new
