-- A whole swarm: connections that come and go while events happen to the machine that they share.
use Rattle.std.specs.Prelude.{ℕ, ◌≡◌, ◌-◌, ◌^◌, ◌⊎◌, ◌+◌, Bool, true, List, [], ◌∷◌, ◌++◌, length, slice_index_or, take, drop, Option, Some, None, Result, Ok, OnOk, All, Contains}
use Rattle.std.specs.Io.KnownBytes.{Consumes}
use Rattle.bt_disk.specs.Conduct.{Conduct}
use Rattle.bt_book.specs.declared.names.PeerKey.{PeerKey}
use Rattle.bt_machine.specs.declared.answer.Why.{Why}
use Rattle.bt_machine.specs.declared.event.Event.TheVariants.{Connect, Lost}
use Rattle.bt_machine.specs.declared.event.Answer.TheVariants.{Connected, Lost as LostAnswer}
use Rattle.bt_machine.specs.declared.error.FlushError.{FlushError}
use Rattle.bt_machine.specs.declared.error.EngineError.{EngineError}
use Rattle.bt_machine.specs.Output.{Output}
use Rattle.bt_machine.specs.State.{EngineView}
use Rattle.bt_session.specs.declared.end.SessionEnd.{SessionEnd}
use Rattle.bt_session.specs.declared.end.SessionEnd.TheVariants.{Memory}
use Rattle.bt_swarm.specs.declared.member.Member.{Member}
use Rattle.bt_swarm.specs.Runs.{Happening, Runs, fed_in, frames_in, joined_in}
use Rattle.bt_swarm.specs.Steps.{Steps, IsComplete}
use Rattle.bt_swarm.specs.Causes.{HasCause, IsClosedIn, ReadFailed}
use Rattle.bt_swarm.specs.Moves.{IsWritten, IsHere}
use Rattle.bt_swarm.specs.Passing.{Passing, came, went, came_count, went_count}

module _ {D R W : Type 0} (conduct : Conduct D) (dig : List ℕ → List ℕ) (read_fault write_fault : Type 0)
    (gives : R → W → Type 0) (remaining : R → Option (List ℕ)) (contents : W → Option (List ℕ))
    (first : EngineView D) where
  -- A connection that was given by such a reader and writer, as it is now, after a run of which `since` is
  -- the part since it came. It gave just the bytes that were fed as its own, in their order, and it was sent
  -- the frames that were for it. Where it has ended, that has its cause, and where an event closed it, it has
  -- ended.
  pub record HasStayed (history : List Happening) (now : Member R W) : Type 0 where
    pub reader : R
    pub writer : W
    pub given : gives reader writer
    pub before : List Happening
    pub greeting : Output
    pub since : List Happening
    pub splits : history ≡ before ++ (Connect, Connected (Ok (now.key, greeting))) ∷ since
    pub read : Consumes (remaining reader) (remaining now.reader) (fed_in now.key since)
    pub written : IsWritten (contents writer) (contents now.writer)
        (frames_in now.key ((Connect, Connected (Ok (now.key, greeting))) ∷ since)) now.end
    pub caused : (end : SessionEnd) → now.end ≡ Some end
        → HasCause conduct dig read_fault write_fault first history now.key end
    pub unclosed : now.end ≡ None → (why : Why) → ¬ IsClosedIn since now.key why

  -- one that went from this place with this end: it had stayed up to then, and had ended
  pub record HasGone (history : List Happening) (key : PeerKey) (place : ℕ) (end : SessionEnd) : Type 0 where
    pub until : List Happening
    pub after : List Happening
    pub splits : history ≡ until ++ after
    pub member : Member R W
    pub same_key : member.key ≡ key
    pub same_place : member.place ≡ place
    pub ended : member.end ≡ Some end
    pub stayed : HasStayed until member

  -- one that went, and the gate was told of it
  abbrev pub HasGoneTold : List Happening → List Passing → PeerKey → Type 0
  HasGoneTold history passed key = (place : ℕ) × (end : SessionEnd) × HasGone history key place end
      × Contains passed (came place) × Contains passed (went place end)

  -- Events led from the first engine to this one, while these came through the gate and went. Each
  -- connection that is there has stayed where it came, and each key that was given out is that of one that is
  -- there or has gone. The gate was told of those alone that have gone, or that were refused for want of
  -- memory; and of all but those that are there.
  pub record HasSwarmed (passed : List Passing) (now : EngineView D) (members : List (Member R W))
      : Type 0 where
    pub history : List Happening
    pub runs : Runs (Steps conduct dig) first history now
    pub here : All (HasStayed history) members
    pub at_place : All (λ m. Contains passed (came m.place)) members
    pub each : (key : PeerKey) → Contains (joined_in history) key
        → IsHere key members ⊎ HasGoneTold history passed key
    pub told : (place : ℕ) (end : SessionEnd) → Contains passed (went place end)
        → ((key : PeerKey) × HasGone history key place end) ⊎ (end ≡ Memory)
    pub all_told : came_count passed ≡ went_count passed + length members

module _ {D R W G : Type 0} (conduct : Conduct D) (dig : List ℕ → List ℕ) (read_fault write_fault : Type 0)
    (gives : R → W → Type 0) (remaining : R → Option (List ℕ)) (contents : W → Option (List ℕ))
    (leads : G → List Passing → G → Type 0) where
  -- Events led on while some came through a gate and some went, and whatever swarm there was goes on with
  -- them as one.
  pub record SwarmsOn (old : EngineView D) (before : List (Member R W)) (old_gate : G) (new : EngineView D)
      (after : List (Member R W)) (new_gate : G) : Type 0 where
    pub passed : List Passing
    pub led : leads old_gate passed new_gate
    pub history : List Happening
    pub runs : Runs (Steps conduct dig) old history new
    pub goes_on : (first : EngineView D) (so_far : List Passing)
        → HasSwarmed conduct dig read_fault write_fault gives remaining contents first so_far old before
        → HasSwarmed conduct dig read_fault write_fault gives remaining contents first (so_far ++ passed)
        new after

  -- a whole swarm, of which nobody is there any more
  pub record HasServed (old : EngineView D) (old_gate : G) (new : EngineView D) (new_gate : G) : Type 0 where
    pub passed : List Passing
    pub led : leads old_gate passed new_gate
    pub swarmed : HasSwarmed conduct dig read_fault write_fault gives remaining contents old passed new []

-- One went from a list of those that are there, and the machine and the gate were told.
pub record HasLeft {D R W G : Type 0} (conduct : Conduct D) (dig : List ℕ → List ℕ)
    (leads : G → List Passing → G → Type 0) (at : ℕ) (end : SessionEnd) (old : EngineView D)
    (before : List (Member R W)) (old_gate : G) (new : EngineView D) (after : List (Member R W))
    (new_gate : G) : Type 0 where
  pub member : Member R W
  pub was : member ≡ slice_index_or before at member
  pub others : after ≡ take at before ++ drop (at + 1) before
  pub answer : Result (Unit {0}) EngineError
  pub step : Steps conduct dig old (Lost member.key) (LostAnswer answer) new
  pub led : leads old_gate (went member.place end ∷ []) new_gate

-- ---- its end

-- Its rounds are over: all files are complete, where it goes on until then; the gate says that nobody is to
-- come any more, and nobody is there; or it was waited as often as is counted.
pub data IsAtEnd {D R W : Type 0} (until_complete : Bool) (engine : EngineView D)
    (members : List (Member R W)) (is_shut : Type 0) (waits : ℕ) : Type 0 where
  completed : until_complete ≡ true → IsComplete engine → IsAtEnd until_complete engine members is_shut waits
  deserted : members ≡ [] → is_shut → IsAtEnd until_complete engine members is_shut waits
  waited_out : waits ≡ 2 ^ 64 - 1 → IsAtEnd until_complete engine members is_shut waits

-- It is over: all files are complete, where it goes on until then; the gate says that nobody is to come any
-- more, which it was asked where no peer was there, and then only this happened; or it was waited as often as
-- is counted.
pub data IsOver {D : Type 0} (Happens : EngineView D → EngineView D → Type 0) (until_complete : Bool)
    (engine : EngineView D) (is_shut : Type 0) (waits : ℕ) : Type 0 where
  complete : until_complete ≡ true → IsComplete engine → IsOver Happens until_complete engine is_shut waits
  nobody : (asked : EngineView D) → asked.state.peers ≡ [] → is_shut → Happens asked engine
      → IsOver Happens until_complete engine is_shut waits
  spent : waits ≡ 2 ^ 64 - 1 → IsOver Happens until_complete engine is_shut waits

-- Rounds were cut short: a flush was refused, or it was waited as often as is counted. Who is there then ends
-- as one whose reader failed.
abbrev pub IsCutShort : Result (Unit {0}) FlushError → ℕ → Type 0
IsCutShort answer waits = OnOk answer (waits ≡ 2 ^ 64 - 1)

-- a reader failed, a device refused a write, or rounds were cut short
abbrev pub ReadFailedOrCut : {R G : Type 0} → (has_failed : R → Type 0) → (is_troubled : G → Type 0)
    → Result (Unit {0}) FlushError → ℕ → Type 0
ReadFailedOrCut has_failed is_troubled answer waits =
    ReadFailed has_failed is_troubled ⊎ IsCutShort answer waits
