-- What the steps of a translation say of each other. No public contract cites them.
use Rattle.std.specs.Prelude.{◌≡◌, ◌⊎◌, ℕ, ◌+◌, ◌<◌, ◌≤◌, List, [], Option, Some, None, length, drop}
use Rattle.std.specs.Io.KnownBytes.{Consumes, IsAtEnd}
use Rattle.bt_wire.specs.Frames.{BeginsFrame}
use Rattle.bt_wire.specs.declared.message.Ask.{Ask}
use Rattle.bt_connection.specs.declared.translation.Side.{Side}
use Rattle.bt_connection.specs.declared.translation.Side.TheVariants.{Peer}
use Rattle.bt_connection.specs.Flow.{flow, Waits}
use Rattle.bt_connection.specs.FrameSteps.{IsMissing}
use Rattle.bt_connection.specs.Padded.{frame_room_length, DirectionState}
use Rattle.bt_connection.specs.Translation.{Settles, Receives}

-- where the bytes begin with a frame nothing stands after it
abbrev pub EndsWithFrame : List ℕ → Type 0
EndsWithFrame bytes = (n : ℕ) → BeginsFrame bytes n → n ≡ length bytes

-- they wait, or else this is given on, and as many bytes after them as the number says pass
abbrev pub SettlesBy : (blocks : List Ask) → Side → (came : List ℕ) → Option ℕ → (now : List ℕ) → Type 0
SettlesBy blocks side came None now = Waits came × (now ≡ came)
SettlesBy blocks side came (Some behind) now = Settles blocks side came (flow behind []) now

-- after bytes that are kept none pass
abbrev pub IsApart : (passing : ℕ) → (unread : List ℕ) → Type 0
IsApart passing unread = (passing ≡ 0) ⊎ (unread ≡ [])

-- the first `ready` bytes in the room are given on, and those after them wait
abbrev pub IsOrderly : (passing : ℕ) → (room : List ℕ) → (ready : ℕ) → Type 0
IsOrderly passing room ready =
    (ready ≤ length room) × Waits (drop ready room) × IsApart passing (drop ready room)

-- a message of the peer is to come next, and none of another waits
pub record IsBetween (d : DirectionState) : Type 0 where
  pub side : d.side ≡ Peer
  pub waiting : d.waiting ≡ []
  pub flow : d.flow ≡ flow 0 []

-- at most `most` bytes are taken next: some of those that pass, or what is missing of a frame
pub record IsWanted (d : DirectionState) (most : ℕ) : Type 0 where
  pub some : 0 < most
  pub fits : length d.flow.unread + most ≤ frame_room_length
  pub pass : 0 < d.flow.passing → most ≤ d.flow.passing
  pub missing : d.flow.passing ≡ 0 → IsMissing d.flow.unread most

-- `count` bytes came, none only at the end, and what is given on of them waits
pub record IsCollected (before after : Option (List ℕ)) (old : DirectionState) (count : ℕ)
    (new : DirectionState) : Type 0 where
  pub part : List ℕ
  pub counted : length part ≡ count
  pub few : count ≤ frame_room_length
  pub lost : Consumes before after part
  pub ended : count ≡ 0 → IsAtEnd after
  pub receives : Receives old.blocks old.side old.flow part new.flow new.waiting
  pub side : new.side ≡ old.side
  pub blocks : new.blocks ≡ old.blocks
