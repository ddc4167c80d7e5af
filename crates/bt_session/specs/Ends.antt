-- How a session ends.
use Rattle.std.specs.Prelude.{ℕ, ◌≡◌, ◌≢◌, ◌<◌, ◌≤◌, ◌⊎◌, Bool, true, false, List, [], Option, Some, None, Result, Ok, Err}
use Rattle.std.specs.Io.KnownBytes.{IsAtEnd}
use Rattle.bt_disk.specs.Conduct.{Conduct}
use Rattle.bt_book.specs.declared.names.PeerKey.{PeerKey}
use Rattle.bt_machine.specs.declared.answer.Why.{Why}
use Rattle.bt_machine.specs.declared.error.EngineError.{EngineError}
use Rattle.bt_machine.specs.declared.error.EngineError.TheVariants.{OutOfMemory}
use Rattle.bt_machine.specs.declared.error.FlushError.{FlushError}
use Rattle.bt_machine.specs.declared.event.Event.TheVariants.{Lost}
use Rattle.bt_machine.specs.declared.event.Answer.{Answer}
use Rattle.bt_machine.specs.declared.event.Answer.TheVariants.{Connected, Fed, Stepped, Lost as LostAnswer, Rechoked, Flushed}
use Rattle.bt_machine.specs.Law.{sent_by}
use Rattle.bt_machine.specs.State.{EngineState, EngineView}
use Rattle.bt_machine.specs.View.{StepsTo}
use Rattle.bt_session.specs.declared.end.SessionEnd.{SessionEnd}
use Rattle.bt_session.specs.declared.end.SessionEnd.TheVariants.{Complete, Ended, Closed, TurnsSpent, ReadFault, WriteFault, Memory}
use Rattle.bt_session.specs.declared.flushing.Flushing.{Flushing}
use Rattle.bt_session.specs.Flushing.{is_flush_due}
use Rattle.bt_session.specs.Session.{IsDone}
use Rattle.bt_session.specs.Frames.{frames_to}
use Rattle.bt_session.specs.Progress.{Place, HowMuch, AllWritten, WrittenBefore, IsUnknown, HasRun}

-- ---- the last answer

-- the peer is there, and the engine may have become complete
abbrev pub MayBeDone : Answer → Type 0
MayBeDone (Connected (Ok _)) = Unit {0}
MayBeDone (Stepped (Ok (Some out))) = out.close ≡ None
MayBeDone _ = ⊥

-- after so many turns the next thing is a read
abbrev pub IsBetweenTurns : (until_complete : Bool) → Flushing → (taken : ℕ) → EngineState → Answer → Type 0
IsBetweenTurns until flushing taken s (Connected (Ok _)) = ¬ IsDone until s
IsBetweenTurns until flushing taken s (Rechoked (Ok _)) = is_flush_due flushing taken ≡ false
IsBetweenTurns until flushing taken s (Flushed (Ok _)) = Unit {0}
IsBetweenTurns until flushing taken s _ = ⊥

abbrev pub ClosesPeer : Why → Answer → Type 0
ClosesPeer why (Stepped (Ok (Some out))) = out.close ≡ Some why
ClosesPeer why _ = ⊥

-- it has frames that are written
abbrev pub HasOutput : Answer → Type 0
HasOutput (Connected (Ok _)) = Unit {0}
HasOutput (Stepped (Ok (Some out))) = Unit {0}
HasOutput (Rechoked (Ok _)) = Unit {0}
HasOutput _ = ⊥

-- memory was refused in the event
abbrev pub IsRefused : Answer → Type 0
IsRefused (Fed (Err error)) = error ≡ OutOfMemory
IsRefused (Stepped (Err error)) = error ≡ OutOfMemory
IsRefused (Rechoked (Err error)) = Unit {0}
IsRefused _ = ⊥

-- ---- the ends

-- how much is written at this end, of what was sent to the peer up to this last answer: where memory was refused,
-- nothing of the last answer
abbrev pub written_at : PeerKey → (last : Answer) → Result SessionEnd FlushError → HowMuch
written_at key last (Ok WriteFault) = IsUnknown
written_at key last (Ok Memory) = WrittenBefore (frames_to key (sent_by last))
written_at key last _ = AllWritten

-- A session that is given so many turns comes to this end after so many turns, with this last answer. In
-- place of an end of its own it may come to a flush that is due and refused, which is its last event.
abbrev pub Comes : PeerKey → Result SessionEnd FlushError → (until_complete : Bool) → Flushing
    → (given taken : ℕ) → (last : Answer) → EngineState → (remaining : Option (List ℕ)) → Type 0
Comes key (Ok Complete) until flushing given taken last s remaining = MayBeDone last × IsDone until s
Comes key (Ok Ended) until flushing given taken last s remaining =
    IsBetweenTurns until flushing taken s last × (taken < given) × IsAtEnd remaining
Comes key (Ok (Closed why)) until flushing given taken last s remaining = ClosesPeer why last
Comes key (Ok TurnsSpent) until flushing given taken last s remaining =
    IsBetweenTurns until flushing taken s last × (taken ≡ given)
Comes key (Ok ReadFault) until flushing given taken last s remaining =
    IsBetweenTurns until flushing taken s last × (taken < given)
Comes key (Ok WriteFault) until flushing given taken last s remaining = HasOutput last
Comes key (Ok Memory) until flushing given taken last s remaining =
    (HasOutput last × (frames_to key (sent_by last) ≢ [])) ⊎ IsRefused last
Comes key (Err error) until flushing given taken last s remaining =
    (is_flush_due flushing taken ≡ true) × (last ≡ Flushed (Err error))

-- From the first place a session has come to this end, where it is now. The peer may be there still.
pub record HasEnded {D : Type 0} (conduct : Conduct D)
    (dig : List ℕ → List ℕ) (key : PeerKey) (until_complete : Bool) (flushing : Flushing) (given : ℕ)
    (first : Place D) (end : Result SessionEnd FlushError) (now : Place D) : Type 0 where
  pub taken : ℕ
  pub few : taken ≤ given
  pub last : Answer
  pub ran : HasRun conduct dig key until_complete flushing (written_at key last end) first taken last now
  pub comes : Comes key end until_complete flushing given taken last now.engine.state now.remaining

-- A whole session, of at most so many turns: it has come to its end, and its peer is removed. Of one that is flushed
-- the end may be that a flush was refused.
pub record IsSession {D : Type 0} (conduct : Conduct D)
    (dig : List ℕ → List ℕ) (until_complete : Bool) (flushing : Flushing) (given : ℕ) (first : Place D)
    (end : Result SessionEnd FlushError) (last : Place D) : Type 0 where
  pub key : PeerKey
  pub engine : EngineView D
  pub ended : HasEnded conduct dig key until_complete flushing given first end
      (record last { engine = engine })
  pub removed : Result (Unit {0}) EngineError
  pub removal : StepsTo conduct dig engine (Lost key) (LostAnswer removed) last.engine
