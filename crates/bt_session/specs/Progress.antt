-- What a session has read and written.
use Rattle.std.specs.Prelude.{ℕ, ◌≡◌, ◌++◌, Bool, List, [], flat_map, Option}
use Rattle.std.specs.Io.KnownBytes.{Appends, Consumes}
use Rattle.std.specs.List.{count_by}
use Rattle.bt_disk.specs.Conduct.{Conduct}
use Rattle.bt_book.specs.declared.names.PeerKey.{PeerKey}
use Rattle.bt_machine.specs.declared.answer.Frame.{Frame}
use Rattle.bt_machine.specs.declared.event.Event.{Event}
use Rattle.bt_machine.specs.declared.event.Event.TheVariants.{Feed}
use Rattle.bt_machine.specs.declared.event.Answer.{Answer}
use Rattle.bt_machine.specs.Law.{sent_by}
use Rattle.bt_machine.specs.State.{EngineView}
use Rattle.bt_session.specs.declared.flushing.Flushing.{Flushing}
use Rattle.bt_session.specs.Frames.{spellings, frames_to}
use Rattle.bt_session.specs.Session.{Session, is_turn}

abbrev pub fed_by : Event → List ℕ
fed_by (Feed key bytes) = bytes
fed_by _ = []

-- the frames of all answers that are sent to the peer
abbrev pub frames_in : PeerKey → List Answer → List Frame
frames_in key answers = flat_map (λ answer. frames_to key (sent_by answer)) answers

-- an engine, the bytes that a reader has left and those that a writer holds, where these are known
pub record Place (D : Type 0) : Type 0 where
  pub engine : EngineView D
  pub remaining : Option (List ℕ)
  pub contents : Option (List ℕ)

abbrev pub place : {D : Type 0} → EngineView D → Option (List ℕ) → Option (List ℕ) → Place D
place engine remaining contents = record { engine = engine; remaining = remaining; contents = contents }

-- How much is written of the frames that were sent to the peer, after what the writer held.
abbrev pub HowMuch : Type 1
HowMuch = Option (List ℕ) → Option (List ℕ) → List Frame → Type 0

abbrev pub AllWritten : HowMuch
AllWritten old new frames = Appends old new (spellings frames)

-- all but the last of them, which are these
abbrev pub WrittenBefore : (last : List Frame) → HowMuch
WrittenBefore last old new frames =
    (before : List Frame) × (frames ≡ before ++ last) × Appends old new (spellings before)

-- of a writer that failed nothing is known
abbrev pub IsUnknown : HowMuch
IsUnknown old new frames = Unit {0}

-- From the first place a session of so many turns came to where it is now, with `last` as its last answer. It
-- was fed, in their order, just the bytes that the reader gave; and of what it sent to its peer so much is
-- written.
pub record HasRun {D : Type 0} (conduct : Conduct D)
    (dig : List ℕ → List ℕ) (key : PeerKey) (until_complete : Bool) (flushing : Flushing) (how_much : HowMuch)
    (first : Place D) (turns : ℕ) (last : Answer) (now : Place D) : Type 0 where
  pub events : List Event
  pub answers : List Answer
  pub session : Session conduct dig key until_complete flushing first.engine events answers last
      now.engine
  pub count : count_by is_turn events ≡ turns
  pub read : Consumes first.remaining now.remaining (flat_map fed_by events)
  pub written : how_much first.contents now.contents (frames_in key answers)
