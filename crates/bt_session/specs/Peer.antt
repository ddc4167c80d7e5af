-- How it ends with one peer.
use Rattle.std.specs.Prelude.{ℕ, ◌≡◌, Bool, true, false, List, Option, Some, None, Result, Ok, Err}
use Rattle.bt_disk.specs.Conduct.{Conduct}
use Rattle.bt_machine.specs.declared.error.FlushError.{FlushError}
use Rattle.bt_machine.specs.declared.event.Event.TheVariants.{Connect, Flush}
use Rattle.bt_machine.specs.declared.event.Answer.TheVariants.{Connected, Flushed}
use Rattle.bt_machine.specs.State.{EngineView}
use Rattle.bt_machine.specs.View.{StepsTo}
use Rattle.bt_session.specs.declared.end.SessionEnd.{SessionEnd}
use Rattle.bt_session.specs.declared.end.SessionEnd.TheVariants.{ReadFault}
use Rattle.bt_session.specs.declared.flushing.Flushing.{Flushing}
use Rattle.bt_session.specs.Flushing.{is_ever_flushed}
use Rattle.bt_session.specs.Progress.{place}
use Rattle.bt_session.specs.Ends.{IsSession}
use Rattle.bt_session.specs.declared.peer_end.PeerEnd.{PeerEnd}
use Rattle.bt_session.specs.declared.peer_end.PeerEnd.TheVariants.{Unreachable, Refused, Session}

-- An engine has a session with the peer of a reader that has these bytes left. What the reader has left then is
-- not looked at, nor what was written.
pub record HasSession {D : Type 0} (conduct : Conduct D)
    (dig : List ℕ → List ℕ) (until_complete : Bool) (flushing : Flushing) (turns : ℕ)
    (remaining contents : Option (List ℕ)) (old : EngineView D) (end : Result SessionEnd FlushError)
    (new : EngineView D) : Type 0 where
  pub left : Option (List ℕ)
  pub written : Option (List ℕ)
  pub session : IsSession conduct dig until_complete flushing turns
      (place old remaining contents) end (place new left written)

-- an engine is flushed, or is left as it is
abbrev pub IsFlushedWhere : {D : Type 0} → Conduct D → (List ℕ → List ℕ)
    → (flushes : Bool) → EngineView D → Result (Unit {0}) FlushError → EngineView D → Type 0
IsFlushedWhere conduct dig true old answer new =
    StepsTo conduct dig old Flush (Flushed answer) new
IsFlushedWhere conduct dig false old answer new = (answer ≡ Ok tt) × (new ≡ old)

-- A session came to this end, and the engine was flushed after it too, unless it never is. Or a flush in it was
-- refused: then it has the end of one whose reader failed, since no more is read.
pub data IsFlushedSession {D : Type 0} (conduct : Conduct D)
    (dig : List ℕ → List ℕ) (until_complete : Bool) (flushing : Flushing) (turns : ℕ)
    (remaining contents : Option (List ℕ)) (old : EngineView D) (end : SessionEnd)
    (answer : Result (Unit {0}) FlushError) (new : EngineView D) : Type 0 where
  behind : (mid : EngineView D)
      → HasSession conduct dig until_complete flushing turns remaining contents old (Ok end) mid
      → IsFlushedWhere conduct dig (is_ever_flushed flushing) mid answer new
      → IsFlushedSession conduct dig until_complete flushing turns remaining contents old end answer new
  within : (error : FlushError)
      → HasSession conduct dig until_complete flushing turns remaining contents old (Err error) new
      → end ≡ ReadFault → answer ≡ Err error
      → IsFlushedSession conduct dig until_complete flushing turns remaining contents old end answer new

-- A session with a peer that was reached was cut short: a flush in it was refused, as this answer says.
abbrev pub IsCutShort : {D R W : Type 0} → Conduct D → (List ℕ → List ℕ)
    → (remaining : R → Option (List ℕ)) → (contents : W → Option (List ℕ)) → (until_complete : Bool)
    → Flushing → (turns : ℕ) → (answer : Result (Unit {0}) FlushError) → (reached : Option (R × W))
    → EngineView D → EngineView D → Type 0
IsCutShort conduct dig remaining contents until flushing turns (Err error) (Some ways) old new =
    HasSession conduct dig until flushing turns (remaining ways.0) (contents ways.1) old (Err error) new
IsCutShort conduct dig remaining contents until flushing turns _ _ old new = ⊥

-- How it ends with a peer, and what the last flush answered: Ok where there was none. One that was not reached
-- leaves the engine as it was; one that was reached gave a reader and a writer, and has a session with them, or
-- the engine refused it and is as it was.
abbrev pub EndsAs : {D R W : Type 0} → Conduct D → (List ℕ → List ℕ)
    → (remaining : R → Option (List ℕ)) → (contents : W → Option (List ℕ)) → (until_complete : Bool)
    → Flushing → (turns : ℕ) → (reached : Option (R × W)) → EngineView D → PeerEnd
    → (answer : Result (Unit {0}) FlushError) → EngineView D → Type 0
EndsAs conduct dig remaining contents until flushing turns None old Unreachable answer new =
    (answer ≡ Ok tt) × (new ≡ old)
EndsAs conduct dig remaining contents until flushing turns (Some ways) old (Refused error) answer new =
    (answer ≡ Ok tt) × StepsTo conduct dig old Connect (Connected (Err error)) new × (new ≡ old)
EndsAs conduct dig remaining contents until flushing turns (Some ways) old (Session end) answer new =
    IsFlushedSession conduct dig until flushing turns (remaining ways.0) (contents ways.1) old end answer new
EndsAs conduct dig remaining contents until flushing turns _ old _ answer new = ⊥
