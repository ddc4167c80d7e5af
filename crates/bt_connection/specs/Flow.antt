-- The bytes of one direction of a connection, in any parts: a handshake, and then frames (BEP 3).
use Rattle.std.specs.Prelude.{◌≡◌, ◌≢◌, ◌⊎◌, ℕ, ◌+◌, ◌<◌, ◌≤◌, ◌^◌, List, [], ◌++◌, length, take, slice_index}
use Rattle.std.specs.Int.{w32, to_be_bytes}
use Rattle.bt_tree.specs.Limits.{full_block_length}
use Rattle.bt_wire.specs.Limits.{request_kind, piece_kind}
use Rattle.bt_wire.specs.declared.handshake.TheConstants.{HANDSHAKE_LEN}
use Rattle.bt_wire.specs.declared.frames.TheConstants.{REQUEST_FIELD, PIECE_FIELD}
use Rattle.bt_wire.specs.Frames.{IsFrame}

-- how many bytes still pass as they come, and what of a frame has come after them
pub record Flow : Type 0 where
  pub passing : ℕ
  pub unread : List ℕ

abbrev pub flow : ℕ → List ℕ → Flow
flow passing unread = record { passing = passing; unread = unread }

-- first a handshake passes
abbrev pub new_flow : Flow
new_flow = flow HANDSHAKE_LEN []

-- the kind and the length field of a message that may be translated: a request, or a piece of a block at most
abbrev pub IsOfInterest : (kind field : ℕ) → Type 0
IsOfInterest kind field =
    ((kind ≡ request_kind) × (field ≡ REQUEST_FIELD))
    ⊎ ((kind ≡ piece_kind) × (PIECE_FIELD ≤ field) × (field ≤ PIECE_FIELD + full_block_length))

-- Such a message may begin so: its length field has come alone, and is none that is too long, or its kind too.
abbrev pub MayBeOfInterest : (unread : List ℕ) → (field : ℕ) → Type 0
MayBeOfInterest unread field = ((length unread ≡ 4) × (field ≤ PIECE_FIELD + full_block_length))
    ⊎ ((4 < length unread) × IsOfInterest (slice_index unread 4) field)

-- no frame is whole; and what has come has no length field yet, or may be the beginning of such a message
pub record Waits (unread : List ℕ) : Type 0 where
  pub no_frame : (frame rest : List ℕ) → IsFrame frame → unread ≢ frame ++ rest
  pub kind : (length unread < 4)
      ⊎ ((field : ℕ) × (to_be_bytes w32 field ≡ take 4 unread) × MayBeOfInterest unread field)

-- the beginning of any other message, of which `missing` bytes are missing
pub record IsOther (unread : List ℕ) (missing : ℕ) : Type 0 where
  pub field : ℕ
  pub number : field < 2 ^ 32
  pub front : to_be_bytes w32 field ≡ take 4 unread
  pub has_field : 4 ≤ length unread
  pub other : ¬ MayBeOfInterest unread field
  pub some : 0 < missing
  pub whole : missing + length unread ≡ 4 + field
