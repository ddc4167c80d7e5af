-- What a part of a session does, wherever the session began.
use Rattle.std.specs.Prelude.{ℕ, ◌≡◌, ◌+◌, ◌≤◌, Bool, true, false, List, length, take, Option, Some, None, Result, Ok, Err, MatchResult}
use Rattle.std.specs.Io.KnownBytes.{Consumes, IsAtEnd}
use Rattle.bt_disk.specs.Conduct.{Conduct}
use Rattle.bt_book.specs.declared.names.PeerKey.{PeerKey}
use Rattle.bt_machine.specs.declared.answer.Why.{Why}
use Rattle.bt_machine.specs.declared.event.Event.{Event}
use Rattle.bt_machine.specs.declared.event.Event.TheVariants.{Next, Rechoke}
use Rattle.bt_machine.specs.declared.event.Answer.{Answer}
use Rattle.bt_machine.specs.declared.event.Answer.TheVariants.{Rechoked}
use Rattle.bt_machine.specs.declared.error.FlushError.{FlushError}
use Rattle.bt_machine.specs.State.{EngineState, EngineView}
use Rattle.bt_session.specs.declared.end.SessionEnd.{SessionEnd}
use Rattle.bt_session.specs.declared.end.SessionEnd.TheVariants.{Complete, Closed}
use Rattle.bt_session.specs.declared.flushing.Flushing.{Flushing}
use Rattle.bt_session.specs.declared.turn.Partner.{Partner}
use Rattle.bt_session.specs.Session.{Follows, IsDone}
use Rattle.bt_session.specs.Progress.{Place, place, AllWritten, HasRun}
use Rattle.bt_session.specs.Ends.{IsBetweenTurns, HasEnded}

-- what may come next after so many turns, by the engine's state and the last answer
abbrev pub Outlook : Type 1
Outlook = Flushing → (taken : ℕ) → EngineState → Answer → Type 0

-- this event is the next
abbrev pub Awaits : PeerKey → (until_complete : Bool) → Event → Outlook
Awaits key until event flushing taken s last = Follows key until flushing taken s last event

-- the peer's next wire event is taken next
abbrev pub AwaitsWireEvent : Partner → Outlook
AwaitsWireEvent partner = Awaits partner.key partner.until_complete (Next partner.key)

-- the peers to serve are chosen next
abbrev pub AwaitsChoice : Partner → Outlook
AwaitsChoice partner = Awaits partner.key partner.until_complete Rechoke

-- after a wire event the next is taken; where there was none, the peers to serve are chosen
abbrev pub event_after : PeerKey → (there_was : Bool) → Event
event_after key true = Next key
event_after key false = Rechoke

-- this is next
abbrev pub AwaitsAfter : Partner → (there_was : Bool) → Outlook
AwaitsAfter partner there_was =
    Awaits partner.key partner.until_complete (event_after partner.key there_was)

-- a turn is over: the peers to serve are chosen
abbrev pub IsTurnOver : Flushing → (taken : ℕ) → EngineState → Answer → Type 0
IsTurnOver flushing taken s (Rechoked (Ok _)) = Unit {0}
IsTurnOver flushing taken s _ = ⊥

-- A session has come here in so many turns, with all written that was sent, and goes on so.
pub record GoesOn {D : Type 0} (conduct : Conduct D)
    (dig : List ℕ → List ℕ) (key : PeerKey) (until_complete : Bool) (flushing : Flushing) (outlook : Outlook)
    (first : Place D) (taken : ℕ) (now : Place D) : Type 0 where
  pub last : Answer
  pub ran : HasRun conduct dig key until_complete flushing AllWritten first taken last now
  pub next : outlook flushing taken now.engine.state last

-- how many turns were taken after a part that feeds nothing, and after one that feeds what it read
abbrev pub same_turns : (taken : ℕ) → ℕ
same_turns taken = taken

abbrev pub one_more_turn : (taken : ℕ) → ℕ
one_more_turn taken = taken + 1

-- A part of a session, whenever the engine is flushed, and not only as the partner says: it takes the session
-- from one place to another, where it goes on after so many turns, or to its end.
abbrev pub IsPart : {D A : Type 0} → Conduct D → (List ℕ → List ℕ) → Partner → (before : Outlook)
    → (turns : (taken : ℕ) → ℕ) → (old : Place D) → Result A SessionEnd → (after : A → Outlook)
    → (new : Place D) → Type 0
IsPart {D} conduct dig partner before turns old result after new =
    (flushing : Flushing) (given taken : ℕ) (first : Place D)
    → GoesOn conduct dig partner.key partner.until_complete flushing before first taken old
    → turns taken ≤ given
    → MatchResult result
    (λ done. GoesOn conduct dig partner.key partner.until_complete flushing (after done) first
    (turns taken) new)
    (λ end. HasEnded conduct dig partner.key partner.until_complete flushing given first (Ok end) new)

-- A part that only writes, by what the writer held before it and holds after it: the reader has left what it
-- had left before, whatever that was.
abbrev pub WritesPart : {D A : Type 0} → Conduct D → (List ℕ → List ℕ) → Partner → (before : Outlook)
    → (old : EngineView D) → (held : Option (List ℕ)) → Result A SessionEnd → (after : A → Outlook)
    → (new : EngineView D) → (holds : Option (List ℕ)) → Type 0
WritesPart conduct dig partner before old held result after new holds = (remaining : Option (List ℕ))
    → IsPart conduct dig partner before same_turns (place old remaining held) result after
    (place new remaining holds)

-- A part that only reads and feeds that, by what the reader had left before it and has left after it: the
-- writer holds what it held before, whatever that was.
abbrev pub ReadsPart : {D A : Type 0} → Conduct D → (List ℕ → List ℕ) → Partner → (before : Outlook)
    → (old : EngineView D) → (had_left : Option (List ℕ)) → Result A SessionEnd → (after : A → Outlook)
    → (new : EngineView D) → (has_left : Option (List ℕ)) → Type 0
ReadsPart conduct dig partner before old had_left result after new has_left =
    (contents : Option (List ℕ))
    → IsPart conduct dig partner before one_more_turn (place old had_left contents) result after
    (place new has_left contents)

-- What stands between two turns, the first of them the `taken`-th: a flush where one is due, and the session
-- goes on, or the flush was refused and was its end.
abbrev pub IsPause : {D : Type 0} → Conduct D → (List ℕ → List ℕ) → PeerKey
    → (until_complete : Bool) → Flushing → (taken : ℕ) → EngineView D → Result (Unit {0}) FlushError
    → EngineView D → Type 0
IsPause {D} conduct dig key until flushing taken old result new =
    (given : ℕ) (first : Place D) (remaining contents : Option (List ℕ))
    → GoesOn conduct dig key until flushing IsTurnOver first taken (place old remaining contents)
    → taken ≤ given
    → MatchResult result
    (λ done. GoesOn conduct dig key until flushing (IsBetweenTurns until) first taken
    (place new remaining contents))
    (λ error. HasEnded conduct dig key until flushing given first (Err error)
    (place new remaining contents))

-- ---- its parts

-- one read gave this many bytes, at the front of the buffer: none only where the reader has no more
pub record IsGiven (old new : Option (List ℕ)) (count : ℕ) (buffer : List ℕ) : Type 0 where
  pub within : count ≤ length buffer
  pub taken : Consumes old new (take count buffer)
  pub ended : count ≡ 0 → IsAtEnd new

-- after an output the session ends where the peer was closed, or where it is done
abbrev pub EndsAfter : (until_complete : Bool) → EngineState → Option Why → Option SessionEnd → Type 0
EndsAfter until s (Some why) end = end ≡ Some (Closed why)
EndsAfter until s None (Some end) = (end ≡ Complete) × IsDone until s
EndsAfter until s None None = ¬ IsDone until s
