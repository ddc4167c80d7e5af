-- What is told of the payload of a piece.
use Rattle.std.specs.Prelude.{◌≡◌, ◌-◌, ◌^◌, ◌<◌, ◌≤◌, min, take, drop}
use Rattle.std.specs.Int.{w32, to_be_bytes}
use Rattle.bt_wire.specs.declared.frames.TheConstants.{PIECE}
use Rattle.bt_wire.specs.declared.message.Ask.{Ask}
use Rattle.bt_connection.specs.declared.observer.Arrival.{Arrival}
use Rattle.bt_connection.specs.declared.observer.Arrival.TheVariants as Came
use Rattle.bt_connection.specs.declared.observer.PiecePayload.{PiecePayload}

-- a payload of a piece names this range, and so much of it came: as many bytes as came after its place
pub record NamesRange (payload : PiecePayload) (ask : Ask) : Type 0 where
  pub whole : 8 ≤ payload.len
  pub piece : to_be_bytes w32 ask.piece ≡ take 4 payload.place
  pub begin : to_be_bytes w32 ask.begin ≡ take 4 (drop 4 payload.place)
  pub length : ask.length ≡ min (payload.len - 8) (2 ^ 32 - 1)

-- Of a payload of a piece that is all, the range is told that it names; of one that is too short for that, that a piece
-- came.
abbrev pub IsArrivalOf : PiecePayload → Arrival → Type 0
IsArrivalOf payload Came.Handshake = ⊥
IsArrivalOf payload Came.KeepAlive = ⊥
IsArrivalOf payload (Came.Bits count) = ⊥
IsArrivalOf payload (Came.Block ask) = NamesRange payload ask
IsArrivalOf payload (Came.Message kind) = (payload.len < 8) × (kind ≡ PIECE)
