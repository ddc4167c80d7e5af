-- What follows for streams of bytes.
use Rattle.std.specs.Prelude.{◌≡◌, ◌≢◌, true, ℕ, List, [], ◌∷◌, ◌++◌, length, take, drop, flat_map}
use Rattle.bt_wire.specs.declared.handshake.TheConstants.{HANDSHAKE_LEN}
use Rattle.bt_wire.specs.Event.{IsEvent}
use Rattle.bt_wire.specs.Frames.{IsFrame}
use Rattle.bt_wire.specs.declared.message.Ask.{Ask}
use Rattle.bt_wire.specs.declared.event.WireEvent.{WireEvent}
use Rattle.bt_meta.specs.Torrent.{Metainfo}
use Rattle.bt_connection.specs.ShortBlocks.{short_blocks_of}
use Rattle.bt_connection.specs.Padding.{Memory}
use Rattle.bt_connection.specs.Flow.{Flow, new_flow}
use Rattle.bt_connection.specs.declared.translation.Side.{Side}
use Rattle.bt_connection.specs.Translation.{Gives, Receives}

-- ---- all bytes of a side

-- bytes that come, and what is given on of them
pub record Part : Type 0 where
  pub came : List ℕ
  pub given : List ℕ

-- one part after the other
abbrev pub Come : (blocks : List Ask) → Side → Flow → List Part → Flow → Type 0
Come blocks side come [] left = left ≡ come
Come blocks side come (part ∷ parts) left =
    (mid : Flow) × Receives blocks side come part.came mid part.given × Come blocks side mid parts left

abbrev pub all_came : List Part → List ℕ
all_came parts = flat_map (λ part. part.came) parts

abbrev pub all_given : List Part → List ℕ
all_given parts = flat_map (λ part. part.given) parts

-- ---- frame by frame

abbrev pub BeginsWithNoFrame : List ℕ → Type 0
BeginsWithNoFrame bytes = (frame rest : List ℕ) → IsFrame frame → bytes ≢ frame ++ rest

-- For each frame of a stream stands what is given on in its place; of a rest that begins with none, `held` is
-- held back, and what stands before that is given on as it is.
pub data GivesOn (blocks : List Ask) (side : Side) (held : List ℕ) : (came given : List ℕ) → Type 0 where
  ends : (came given : List ℕ) → BeginsWithNoFrame came → came ≡ given ++ held
      → GivesOn blocks side held came given
  goes_on : (came next frame run given : List ℕ) (old new : Memory) → IsFrame frame → came ≡ frame ++ next
      → Gives blocks side old frame run new → GivesOn blocks side held next given
      → GivesOn blocks side held came (run ++ given)

-- ---- event by event

-- the bytes are these events, one after the other, and nothing else; a handshake has come before
abbrev pub AreEvents : List WireEvent → List ℕ → Type 0
AreEvents [] bytes = bytes ≡ []
AreEvents (e ∷ events) bytes =
    (front : List ℕ) × (back : List ℕ)
    × IsEvent true e front × (bytes ≡ front ++ back) × AreEvents events back

-- as many whole events are given on, and after them what is given on of the rest
pub record GivesEvents (blocks : List Ask) (side : Side) (held : List ℕ) (came : List WireEvent)
    (rest given : List ℕ) : Type 0 where
  pub gone : List WireEvent
  pub front : List ℕ
  pub back : List ℕ
  pub are : AreEvents gone front
  pub as_many : length gone ≡ length came
  pub behind : GivesOn blocks side held rest back
  pub all : given ≡ front ++ back

-- Over all that a side sends, in any parts, a handshake passes as it is, and what is given on after it is a
-- stream as far as what came is one.
abbrev pub GivesStreams : Type 0
GivesStreams = (torrent : Metainfo) (side : Side) (parts : List Part) (left : Flow) (came : List WireEvent)
    (bytes rest : List ℕ)
    → Come (short_blocks_of torrent) side new_flow parts left
    → drop HANDSHAKE_LEN (all_came parts) ≡ bytes ++ rest → AreEvents came bytes
    → (given : List ℕ) × (all_given parts ≡ take HANDSHAKE_LEN (all_came parts) ++ given)
    × GivesEvents (short_blocks_of torrent) side left.unread came rest given
