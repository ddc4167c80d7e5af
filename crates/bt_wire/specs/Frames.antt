-- The frames of a peer's stream, whatever stands in them (BEP 3, "peer messages"), and those that are requests and
-- pieces.
use Rattle.std.specs.Prelude.{◌≡◌, ℕ, ◌+◌, ◌^◌, ◌<◌, ◌≤◌, List, ◌++◌, length, take}
use Rattle.std.specs.Int.{w32, to_be_bytes, from_be_bytes}
use Rattle.bt_wire.specs.Event.{IsSent}
use Rattle.bt_wire.specs.declared.message.Ask.{Ask}
use Rattle.bt_wire.specs.declared.message.Message.TheVariants.{Request, Piece}

-- a message's bytes, whatever stands in it: a length field, and as many bytes as it tells
pub record IsFrame (bytes : List ℕ) : Type 0 where
  pub body : List ℕ
  pub limit : length body < 2 ^ 32
  pub spelled : bytes ≡ to_be_bytes w32 (length body) ++ body

-- the first n bytes are a frame
pub record BeginsFrame (bytes : List ℕ) (n : ℕ) : Type 0 where
  pub inside : n ≤ length bytes
  pub frame : IsFrame (take n bytes)

-- the bytes begin with this length field
pub record BeginsWithField (bytes : List ℕ) (field : ℕ) : Type 0 where
  pub number : field < 2 ^ 32
  pub front : to_be_bytes w32 field ≡ take 4 bytes

-- how many bytes the message has that begins so: its length field, and as many as that tells
unfoldable pub message_length : List ℕ → ℕ
message_length bytes = 4 + from_be_bytes w32 (take 4 bytes)

-- no message is whole at the front of these bytes
abbrev pub HasNoMessage : List ℕ → Type 0
HasNoMessage bytes = 4 ≤ length bytes → length bytes < message_length bytes

-- the frame is a request
abbrev pub IsRequest : List ℕ → Type 0
IsRequest frame = (ask : Ask) × IsSent (Request ask) frame

-- the frame is a piece, and this is the range of its block
pub record IsPieceOf (frame : List ℕ) (ask : Ask) : Type 0 where
  pub block : List ℕ
  pub sent : IsSent (Piece ask.piece ask.begin block) frame
  pub whole : length block ≡ ask.length
