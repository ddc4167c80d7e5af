-- What happens in a session with a peer: which event follows on which.
use Rattle.std.specs.Prelude.{[], ◌≡◌, ℕ, ◌<◌, ◌≤◌, Bool, true, false, List, ◌∷◌, ◌++◌, length, Some, None, Ok}
use Rattle.std.specs.List.{count_by}
use Rattle.bt_disk.specs.Conduct.{Conduct}
use Rattle.bt_book.specs.declared.names.PeerKey.{PeerKey}
use Rattle.bt_machine.specs.declared.event.Event.{Event}
use Rattle.bt_machine.specs.declared.event.Event.TheVariants.{Connect, Feed, Next, Rechoke, Flush}
use Rattle.bt_machine.specs.declared.event.Answer.{Answer}
use Rattle.bt_machine.specs.declared.event.Answer.TheVariants.{Connected, Fed, Stepped, Rechoked, Flushed}
use Rattle.bt_machine.specs.Output.{Output}
use Rattle.bt_machine.specs.Report.{all_complete}
use Rattle.bt_machine.specs.State.{EngineState, EngineView}
use Rattle.bt_machine.specs.View.{StepsTo, RunsTo}
use Rattle.bt_session.specs.declared.flushing.Flushing.{Flushing}
use Rattle.bt_session.specs.Flushing.{is_flush_due}

-- ---- which event follows

-- a session asked to go on until the engine is complete is done then
abbrev pub IsDone : (until_complete : Bool) → EngineState → Type 0
IsDone until_complete s = (until_complete ≡ true) × (all_complete s ≡ true)

-- how many bytes a reader is asked for
abbrev pub read_length : ℕ
read_length = 16384

-- the bytes of one read are fed
abbrev pub FeedsRead : PeerKey → Event → Type 0
FeedsRead key event = (bytes : List ℕ)
    × (0 < length bytes) × (length bytes ≤ read_length) × (event ≡ Feed key bytes)

-- a turn is a read that is fed
abbrev pub is_turn : Event → Bool
is_turn (Feed key bytes) = true
is_turn _ = false

-- after a turn the engine is flushed where that is due; where it isn't, bytes are fed
abbrev pub FollowsTurn : (due : Bool) → PeerKey → Event → Type 0
FollowsTurn true key event = event ≡ Flush
FollowsTurn false key event = FeedsRead key event

-- The event that a session makes after so many turns, after an answer that left the engine so. After a
-- greeting bytes are fed; then wire events are taken until none is there; then the peers to serve are chosen,
-- and the turn is over. After a flush the next one begins.
abbrev pub Follows : PeerKey → (until_complete : Bool) → Flushing → (taken : ℕ) → EngineState → Answer → Event
    → Type 0
Follows key until flushing taken s (Connected (Ok _)) event = ¬ IsDone until s × FeedsRead key event
Follows key until flushing taken s (Fed (Ok _)) event = event ≡ Next key
Follows key until flushing taken s (Stepped (Ok (Some out))) event =
    (out.close ≡ None) × ¬ IsDone until s × (event ≡ Next key)
Follows key until flushing taken s (Stepped (Ok None)) event = event ≡ Rechoke
Follows key until flushing taken s (Rechoked (Ok _)) event = FollowsTurn (is_flush_due flushing taken) key event
Follows key until flushing taken s (Flushed (Ok _)) event = FeedsRead key event
Follows key until flushing taken s _ event = ⊥

-- A session begins as its peer is connected, and goes on event by event. `last` is the last answer.
pub data Session {D : Type 0} (conduct : Conduct D)
    (dig : List ℕ → List ℕ) (key : PeerKey) (until_complete : Bool) (flushing : Flushing) (first : EngineView D)
    : List Event → List Answer → (last : Answer) → EngineView D → Type 0 where
  begins : (out : Output) (answer : Answer) (now : EngineView D) → answer ≡ Connected (Ok (key, out))
      → StepsTo conduct dig first Connect answer now
      → Session conduct dig key until_complete flushing first (Connect ∷ []) (answer ∷ []) answer
      now
  goes_on : (events : List Event) (answers : List Answer) (last answer : Answer) (event : Event)
      (mid now : EngineView D)
      → Session conduct dig key until_complete flushing first events answers last mid
      → Follows key until_complete flushing (count_by is_turn events) mid.state last event
      → StepsTo conduct dig mid event answer now
      → Session conduct dig key until_complete flushing first (events ++ event ∷ [])
      (answers ++ answer ∷ []) answer now

-- Its events are a run of the engine.
abbrev pub SessionsAreRuns : {D : Type 0} → Conduct D → (List ℕ → List ℕ)
    → Type 0
SessionsAreRuns {D} conduct dig = (key : PeerKey) (until_complete : Bool) (flushing : Flushing)
    (first : EngineView D) (events : List Event) (answers : List Answer) (last : Answer) (now : EngineView D)
    → Session conduct dig key until_complete flushing first events answers last now
    → RunsTo conduct dig first events answers now
