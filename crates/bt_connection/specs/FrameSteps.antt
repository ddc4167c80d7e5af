-- What bytes begin with. No public contract cites this.
use Rattle.std.specs.Prelude.{ℕ, ◌+◌, ◌<◌, ◌≤◌, ◌^◌, ◌⊎◌, ◌≡◌, List, length, take}
use Rattle.std.specs.Int.{w32, to_be_bytes}
use Rattle.bt_wire.specs.Frames.{BeginsFrame}
use Rattle.bt_connection.specs.Flow.{Waits, IsOther}
use Rattle.bt_connection.specs.Padded.{frame_room_length}
use Rattle.bt_connection.specs.declared.frame.Front.{Front}
use Rattle.bt_connection.specs.declared.frame.Front.TheVariants.{Frame, Part, Other}

abbrev pub IsFront : List ℕ → Front → Type 0
IsFront bytes Frame = (n : ℕ) × BeginsFrame bytes n
IsFront bytes Part = Waits bytes
IsFront bytes (Other missing) = IsOther bytes missing

-- `missing` bytes are missing of a frame with this length field
pub record IsMissingOf (bytes : List ℕ) (missing field : ℕ) : Type 0 where
  pub number : field < 2 ^ 32
  pub front : to_be_bytes w32 field ≡ take 4 bytes
  pub has_field : 4 ≤ length bytes
  pub whole : missing + length bytes ≡ 4 + field

-- `missing` bytes are missing of the length field, or else of the frame; and there is room for them
pub record IsMissing (bytes : List ℕ) (missing : ℕ) : Type 0 where
  pub some : 0 < missing
  pub fits : length bytes + missing ≤ frame_room_length
  pub kind : (missing + length bytes ≡ 4) ⊎ ((field : ℕ) × IsMissingOf bytes missing field)
