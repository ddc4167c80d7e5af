-- Bytes of one side in any parts, and what is given on of them to the other.
use Rattle.std.specs.Prelude.{◌≡◌, ℕ, ◌-◌, ◌≤◌, List, [], ◌++◌, length}
use Rattle.bt_wire.specs.Message.{message_spelling}
use Rattle.bt_wire.specs.Event.{IsSent}
use Rattle.bt_wire.specs.Frames.{IsFrame}
use Rattle.bt_wire.specs.declared.message.Ask.{Ask}
use Rattle.bt_wire.specs.declared.message.Message.{Message}
use Rattle.bt_connection.specs.Padding.{Memory, ComesIn, GoesOut}
use Rattle.bt_connection.specs.Flow.{Flow, flow, Waits, IsOther}
use Rattle.bt_connection.specs.declared.translation.Side.{Side}
use Rattle.bt_connection.specs.declared.translation.Side.TheVariants.{Peer, Engine}

-- the message that stands for one
abbrev pub Stands : (blocks : List Ask) → Side → Memory → (m given : Message) → Memory → Type 0
Stands blocks Peer old m given new = ComesIn blocks old m given new
Stands blocks Engine old m given new = GoesOut blocks old m given new

-- A frame that spells a message is given on as the spelling of the one that stands for it, and any other
-- frame as it is.
pub record Gives (blocks : List Ask) (side : Side) (old : Memory) (frame given : List ℕ) (new : Memory)
    : Type 0 where
  pub message : (m : Message) → IsSent m frame
      → (other : Message) × Stands blocks side old m other new × (given ≡ message_spelling other)
  pub bytes : ((m : Message) → ¬ IsSent m frame) → given ≡ frame
  pub memory : ((m : Message) → ¬ IsSent m frame) → new ≡ old

-- What becomes of bytes after those that pass, and what is given on of them. They wait. Or they are the
-- beginning of a message of no interest, and pass, as what is missing of it will. Or they are a frame: the two
-- directions of a connection share what is remembered, so some memory is found and some is kept; of what
-- becomes of it until the next frame nothing is said, since no contract knows what a cell holds.
pub data Settles (blocks : List Ask) (side : Side) (come : List ℕ) (left : Flow) (given : List ℕ)
    : Type 0 where
  waits : Waits come → left ≡ flow 0 come → given ≡ [] → Settles blocks side come left given
  other : (missing : ℕ) → IsOther come missing → left ≡ flow missing [] → given ≡ come
      → Settles blocks side come left given
  translated : (found kept : Memory) → IsFrame come → Gives blocks side found come given kept
      → left ≡ flow 0 [] → Settles blocks side come left given

-- Bytes of a side come, and this is given on: they pass, no more of them than do; or they stand after what
-- has come.
pub data Receives (blocks : List Ask) (side : Side) (come : Flow) (bytes : List ℕ) (left : Flow)
    (given : List ℕ) : Type 0 where
  passes : length bytes ≤ come.passing → left ≡ flow (come.passing - length bytes) come.unread → given ≡ bytes
      → Receives blocks side come bytes left given
  settles : come.passing ≡ 0 → Settles blocks side (come.unread ++ bytes) left given
      → Receives blocks side come bytes left given
