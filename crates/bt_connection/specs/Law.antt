-- What follows for whole conversations.
use Rattle.std.specs.Prelude.{◌≡◌, ◌≢◌, ◌↔◌, ◌⊎◌, ℕ, ◌+◌, ◌*◌, ◌≤◌, Bool, false, ◌&&◌, ◌==◌, nat_lt, List, [], ◌∷◌, length, Contains, count_by}
use Rattle.bt_tree.specs.Limits.{full_block_length}
use Rattle.bt_wire.specs.Message.{IsMessage, Fits}
use Rattle.bt_wire.specs.declared.message.Ask.{Ask}
use Rattle.bt_wire.specs.declared.message.Message.{Message}
use Rattle.bt_wire.specs.declared.message.Message.TheVariants.{Request, Piece}
use Rattle.bt_meta.specs.Torrent.{Metainfo}
use Rattle.bt_connection.specs.ShortBlocks.{ask_of, short_blocks_of, IsShortBlock}
use Rattle.bt_connection.specs.Padding.{Memory, new_memory, filled, AsksPadded, AsksExact, ComesIn, GoesOut}

-- ---- short blocks

-- the short blocks of a torrent are just the last blocks of its files that are short
abbrev pub ShortBlocksAreLast : Type 0
ShortBlocksAreLast = (torrent : Metainfo) (ask : Ask)
    → Contains (short_blocks_of torrent) ask ↔ IsShortBlock torrent ask

-- ---- conversations

-- a message that comes in or one that goes out, each with what it is given on as
pub data Passage : Type 0 where
  comes : (m given : Message) → Passage
  goes : (m given : Message) → Passage

abbrev pub Passes : (blocks : List Ask) → Memory → Passage → Memory → Type 0
Passes blocks old (comes m given) new = ComesIn blocks old m given new
Passes blocks old (goes m given) new = GoesOut blocks old m given new

-- one after the other
abbrev pub Pass : (blocks : List Ask) → Memory → List Passage → Memory → Type 0
Pass blocks old [] new = new ≡ old
Pass blocks old (p ∷ passages) new =
    (mid : Memory) × Passes blocks old p mid × Pass blocks mid passages new

-- ---- what is remembered

-- only requests for short blocks are
abbrev pub RemembersShortBlocks : Type 0
RemembersShortBlocks = (blocks : List Ask) (passages : List Passage) (now : Memory) (ask : Ask)
    → Pass blocks new_memory passages now → Contains now ask → Contains blocks ask

-- ---- what a peer is served

-- The engine's piece ends where its file ends, and has zeros after that.
pub record IsFilledAtEnd (torrent : Metainfo) (piece begin : ℕ) (bytes : List ℕ) (given : Message)
    : Type 0 where
  pub short : IsShortBlock torrent (ask_of piece begin (length bytes))
  pub end : full_block_length * short.block + length bytes ≡ short.whole.has.entry.length
  pub filled : given ≡ Piece piece begin (filled bytes)

-- Whatever is remembered, a piece goes out as the engine cut it, or with zeros where its file has ended.
abbrev pub ZerosLieBehindTheEnd : Type 0
ZerosLieBehindTheEnd = (torrent : Metainfo) (old new : Memory) (piece begin : ℕ) (bytes : List ℕ)
    (given : Message)
    → GoesOut (short_blocks_of torrent) old (Piece piece begin bytes) given new
    → (given ≡ Piece piece begin bytes) ⊎ IsFilledAtEnd torrent piece begin bytes given

abbrev pub is_at : ℕ → ℕ → Ask → Bool
is_at piece begin ask = ask.piece == piece && ask.begin == begin

abbrev pub is_padded_request : ℕ → ℕ → Message → Bool
is_padded_request piece begin (Request ask) = ask.length == full_block_length && is_at piece begin ask
is_padded_request piece begin _ = false

abbrev pub is_piece_at : ℕ → ℕ → Message → Bool
is_piece_at piece begin (Piece p b bytes) = is_at piece begin (ask_of p b 0)
is_piece_at piece begin _ = false

-- how many bytes of a piece a message has
abbrev pub data_length : Message → ℕ
data_length (Piece piece begin bytes) = length bytes
data_length _ = 0

-- the peer asks for a whole block from there on
abbrev pub asks_at : ℕ → ℕ → Passage → Bool
asks_at piece begin (comes m given) = is_padded_request piece begin m
asks_at piece begin _ = false

-- a piece from there on goes out longer than the engine sent it
abbrev pub pads_at : ℕ → ℕ → Passage → Bool
pads_at piece begin (goes m given) = nat_lt (data_length m) (data_length given) && is_piece_at piece begin m
pads_at piece begin _ = false

-- Pieces are filled no more often than the peer has asked for all that length.
abbrev pub PadsWhatWasAsked : Type 0
PadsWhatWasAsked = (blocks : List Ask) (passages : List Passage) (now : Memory) (piece begin : ℕ)
    → Pass blocks new_memory passages now
    → count_by (pads_at piece begin) passages ≤ count_by (asks_at piece begin) passages

-- ---- a peer that knows of no padding

-- nothing changes, and nothing is remembered
pub record IsSame (old : Memory) (m given : Message) (new : Memory) : Type 0 where
  pub message : given ≡ m
  pub memory : new ≡ old

-- It passes as it is. Where nothing was remembered nothing is, and else what was is, but where the message asks
-- for a short block.
pub record IsPlain (blocks : List Ask) (old : Memory) (m given : Message) (new : Memory) : Type 0 where
  pub message : given ≡ m
  pub none : old ≡ new_memory → new ≡ new_memory
  pub memory : ((ask : Ask) → ¬ AsksExact blocks m ask) → new ≡ old

-- What comes of it, which asks for no padding, and all that goes to it passes as it is. And whatever was
-- remembered, what it asks for next without padding is answered without.
pub record PlainPassesThrough : Type 0 where
  pub incoming : (blocks : List Ask) (old new : Memory) (m given : Message)
      → ((ask : Ask) → ¬ AsksPadded blocks m ask) → ComesIn blocks old m given new
      → IsPlain blocks old m given new
  pub outgoing : (blocks : List Ask) (new : Memory) (m given : Message)
      → GoesOut blocks new_memory m given new → IsSame new_memory m given new
  pub answer : (blocks : List Ask) (old mid new : Memory) (ask : Ask) (bytes : List ℕ) (asked given : Message)
      → ask.length ≢ full_block_length → length bytes ≡ ask.length
      → ComesIn blocks old (Request ask) asked mid
      → GoesOut blocks mid (Piece ask.piece ask.begin bytes) given new
      → given ≡ Piece ask.piece ask.begin bytes

-- ---- what is given on

pub record CanBeSent (m : Message) : Type 0 where
  pub is_message : IsMessage m
  pub fits : Fits m

-- can be sent where what came could be
pub record GivenOnCanBeSent : Type 0 where
  pub incoming : (torrent : Metainfo) (old new : Memory) (m given : Message)
      → CanBeSent m → ComesIn (short_blocks_of torrent) old m given new → CanBeSent given
  pub outgoing : (torrent : Metainfo) (old new : Memory) (m given : Message)
      → CanBeSent m → GoesOut (short_blocks_of torrent) old m given new → CanBeSent given
