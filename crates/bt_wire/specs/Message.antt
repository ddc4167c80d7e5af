-- The messages of the peer wire, and how they are spelled (BEP 3, "peer messages"; BEP 52, "hash request").
use Rattle.std.specs.Prelude.{◌≡◌, ℕ, ◌+◌, ◌%◌, ◌^◌, ◌<◌, ◌≤◌, Option, Some, None, List, [], ◌∷◌, ◌++◌, length}
use Rattle.std.specs.Int.{w32, to_be_bytes}
use Rattle.bt_tree.specs.Limits.{digest_length}
use Rattle.bt_hashreq.specs.Key.{key_spelling, IsKey}
use Rattle.bt_wire.specs.Limits.{request_kind, piece_kind}
use Rattle.bt_wire.specs.declared.message.TheConstants.{MAX_LENGTH_FIELD}
use Rattle.bt_wire.specs.declared.message.Ask.{Ask}
use Rattle.bt_wire.specs.declared.message.Message.{Message}
use Rattle.bt_wire.specs.declared.message.Message.TheVariants.{KeepAlive, Choke, Unchoke, Interested, NotInterested, Have, Bitfield, Request, Piece, Cancel, HashRequest, Hashes, HashReject}

-- what stands after a length field
pub record Body : Type 0 where
  pub kind : ℕ
  pub payload : List ℕ

abbrev pub body : ℕ → List ℕ → Option Body
body kind payload = Some (record { kind = kind; payload = payload })

-- piece, begin and length, in four bytes each, the high byte first
abbrev pub ask_spelling : Ask → List ℕ
ask_spelling a = to_be_bytes w32 a.piece ++ to_be_bytes w32 a.begin ++ to_be_bytes w32 a.length

-- the kind and the payload of each message; a keepalive has neither
abbrev pub body_of : Message → Option Body
body_of KeepAlive = None
body_of Choke = body 0 []
body_of Unchoke = body 1 []
body_of Interested = body 2 []
body_of NotInterested = body 3 []
body_of (Have piece) = body 4 (to_be_bytes w32 piece)
body_of (Bitfield bits) = body 5 bits
body_of (Request ask) = body request_kind (ask_spelling ask)
body_of (Piece piece begin bytes) = body piece_kind (to_be_bytes w32 piece ++ to_be_bytes w32 begin ++ bytes)
body_of (Cancel ask) = body 8 (ask_spelling ask)
body_of (HashRequest key) = body 21 (key_spelling key)
body_of (Hashes key digests) = body 22 (key_spelling key ++ digests)
body_of (HashReject key) = body 23 (key_spelling key)

-- how many bytes come after the length field
abbrev pub length_field : Option Body → ℕ
length_field None = 0
length_field (Some b) = 1 + length b.payload

-- the length field in four bytes, the high byte first, and then the kind and the payload
abbrev pub frame_spelling : Option Body → List ℕ
frame_spelling None = to_be_bytes w32 0
frame_spelling (Some b) = to_be_bytes w32 (1 + length b.payload) ++ b.kind ∷ b.payload

abbrev pub message_spelling : Message → List ℕ
message_spelling m = frame_spelling (body_of m)

-- digests are whole
abbrev pub HasWholeDigests : Message → Type 0
HasWholeDigests (Hashes key digests) = length digests % digest_length ≡ 0
HasWholeDigests _ = Unit {0}

-- a message that can be sent
pub record Fits (m : Message) : Type 0 where
  pub limit : length_field (body_of m) ≤ MAX_LENGTH_FIELD
  pub whole : HasWholeDigests m

pub record IsAsk (a : Ask) : Type 0 where
  pub piece : a.piece < 2 ^ 32
  pub begin : a.begin < 2 ^ 32
  pub length : a.length < 2 ^ 32

-- numbers have four bytes and roots are digests, as in memory
abbrev pub IsMessage : Message → Type 0
IsMessage (Have piece) = piece < 2 ^ 32
IsMessage (Request ask) = IsAsk ask
IsMessage (Piece piece begin bytes) = (piece < 2 ^ 32) × (begin < 2 ^ 32)
IsMessage (Cancel ask) = IsAsk ask
IsMessage (HashRequest key) = IsKey key
IsMessage (Hashes key digests) = IsKey key
IsMessage (HashReject key) = IsKey key
IsMessage _ = Unit {0}

-- a kind that some message has
abbrev pub IsKnownKind : ℕ → Type 0
IsKnownKind kind = (m : Message) × (payload : List ℕ) × (body_of m ≡ body kind payload)

-- some message of the kind has a payload of n bytes
pub record HasPayloadLength (kind n : ℕ) : Type 0 where
  pub message : Message
  pub payload : List ℕ
  pub is_message : IsMessage message
  pub whole : HasWholeDigests message
  pub body_is : body_of message ≡ body kind payload
  pub size : length payload ≡ n

-- the messages that carry a list of bytes
abbrev pub CarriesBytes : Message → Type 0
CarriesBytes (Bitfield bits) = Unit {0}
CarriesBytes (Piece piece begin bytes) = Unit {0}
CarriesBytes (Hashes key digests) = Unit {0}
CarriesBytes _ = ⊥
