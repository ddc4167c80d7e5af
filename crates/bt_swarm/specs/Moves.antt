-- What connections get and give while events happen to the machine that they share.
use Rattle.std.specs.Prelude.{ℕ, ◌≡◌, ◌<◌, ◌⊎◌, List, [], ◌∷◌, ◌++◌, length, slice_index_or, Option, Some, None, Contains}
use Rattle.std.specs.Io.KnownBytes.{Appends, Consumes, Keeps}
use Rattle.bt_disk.specs.Conduct.{Conduct}
use Rattle.bt_book.specs.declared.names.PeerKey.{PeerKey}
use Rattle.bt_machine.specs.declared.answer.Frame.{Frame}
use Rattle.bt_machine.specs.declared.answer.Why.{Why}
use Rattle.bt_machine.specs.State.{PeerState, EngineState, EngineView}
use Rattle.bt_session.specs.declared.end.SessionEnd.{SessionEnd}
use Rattle.bt_session.specs.Frames.{spelling}
use Rattle.bt_swarm.specs.declared.member.Member.{Member}
use Rattle.bt_swarm.specs.Runs.{Happening, Runs, fed_in, frames_in, joined_in}
use Rattle.bt_swarm.specs.Steps.{Steps}
use Rattle.bt_swarm.specs.Causes.{HasCause, IsClosedIn}

-- ---- what is put into a way out

-- BEP 3: a message of no length, which says nothing and keeps a connection
abbrev pub keep_alive : List ℕ
keep_alive = 0 ∷ 0 ∷ 0 ∷ 0 ∷ []

-- the frames one after the other, with keep-alives between them or none
pub data AreSpelled : List Frame → List ℕ → Type 0 where
  none : AreSpelled [] []
  frame : (first : Frame) (frames : List Frame) (bytes : List ℕ) → AreSpelled frames bytes
      → AreSpelled (first ∷ frames) (spelling first ++ bytes)
  alive : (frames : List Frame) (bytes : List ℕ) → AreSpelled frames bytes
      → AreSpelled frames (keep_alive ++ bytes)

-- all of these frames were put behind what was there
pub record ArePut (old new : Option (List ℕ)) (frames : List Frame) : Type 0 where
  pub bytes : List ℕ
  pub spelled : AreSpelled frames bytes
  pub behind : Appends old new bytes

-- some of them were, the first ones
pub record HasFirst (old new : Option (List ℕ)) (frames : List Frame) : Type 0 where
  pub first : List Frame
  pub rest : List Frame
  pub are : frames ≡ first ++ rest
  pub put : ArePut old new first

-- all of them where a connection has not ended, and the first of them where it has
abbrev pub IsWritten : Option (List ℕ) → Option (List ℕ) → List Frame → Option SessionEnd → Type 0
IsWritten old new frames None = ArePut old new frames
IsWritten old new frames (Some _) = HasFirst old new frames

-- The same of one that had ended already, or had not: where it had, nothing more is put, and it stays so.
abbrev pub IsWrittenOn : Option (List ℕ) → Option (List ℕ) → List Frame → (was is : Option SessionEnd)
    → Type 0
IsWrittenOn old new frames None is = IsWritten old new frames is
IsWrittenOn old new frames (Some end) is = Keeps old new × (is ≡ Some end)

-- ---- keys

-- it is the key of one of these
abbrev pub IsHere : {R W : Type 0} → PeerKey → List (Member R W) → Type 0
IsHere {R} {W} key members = (m : Member R W) × Contains members m × (m.key ≡ key)

-- no two have one key
abbrev pub HaveOwnKeys : {R W : Type 0} → List (Member R W) → Type 0
HaveOwnKeys {R} {W} members = (i j : ℕ) (d : Member R W) → i < length members → j < length members
    → (slice_index_or members i d).key.0 ≡ (slice_index_or members j d).key.0 → i ≡ j

-- No two have one key, each has one that was given out, and each peer of the machine is one of them.
pub record AreKeyed {R W : Type 0} (s : EngineState) (members : List (Member R W)) : Type 0 where
  pub own : HaveOwnKeys members
  pub below : (i : ℕ) (d : Member R W) → i < length members → (slice_index_or members i d).key.0 < s.next_key
  pub held : (p : PeerState) → Contains s.peers p → IsHere p.key members

-- ---- connections

module _ {R W : Type 0} (remaining : R → Option (List ℕ)) (contents : W → Option (List ℕ)) where
  -- A connection gave just these bytes, and was sent these frames. It may have come to one of these ends.
  pub record Moves (bytes : List ℕ) (frames : List Frame) (may_end : SessionEnd → Type 0)
      (old new : Member R W) : Type 0 where
    pub same_key : new.key ≡ old.key
    pub same_place : new.place ≡ old.place
    pub read : Consumes (remaining old.reader) (remaining new.reader) bytes
    pub written : IsWrittenOn (contents old.writer) (contents new.writer) frames old.end new.end
    pub ends : (end : SessionEnd) → new.end ≡ Some end → (old.end ≡ Some end) ⊎ may_end end

  -- so did each, by its key
  pub record EachMovesBy (bytes : PeerKey → List ℕ) (frames : PeerKey → List Frame)
      (may_end : PeerKey → SessionEnd → Type 0) (old new : List (Member R W)) : Type 0 where
    pub same_length : length new ≡ length old
    pub each : (i : ℕ) (d : Member R W) → i < length old
        → Moves (bytes (slice_index_or old i d).key) (frames (slice_index_or old i d).key)
        (may_end (slice_index_or old i d).key) (slice_index_or old i d) (slice_index_or new i d)

-- Events led from one machine to the other, and no peer came by them. What each connection gave is just what
-- was fed as its own, what it was sent is what the answers send to it, and where one ended, this has its
-- cause. One that was closed by an event has ended.
pub record GoesOn {D R W : Type 0} (conduct : Conduct D) (dig : List ℕ → List ℕ)
    (read_fault write_fault : Type 0) (remaining : R → Option (List ℕ)) (contents : W → Option (List ℕ))
    (old : EngineView D) (before : List (Member R W)) (new : EngineView D) (after : List (Member R W))
    : Type 0 where
  pub history : List Happening
  pub runs : Runs (Steps conduct dig) old history new
  pub none_joined : joined_in history ≡ []
  pub moves : EachMovesBy remaining contents (λ key. fed_in key history) (λ key. frames_in key history)
      (λ key. HasCause conduct dig read_fault write_fault old history key) before after
  pub closes : (i : ℕ) (d : Member R W) → i < length before → (slice_index_or after i d).end ≡ None
      → (why : Why) → ¬ IsClosedIn history (slice_index_or before i d).key why
