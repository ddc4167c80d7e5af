-- Messages between an engine and a peer that counts each block as 16,384 bytes, the short last block of a
-- file too: it asks for as many there, and wants them filled up with zeros.
use Rattle.std.specs.Prelude.{◌≡◌, ℕ, ◌-◌, Bool, not, ◌&&◌, ◌==◌, List, ◌∷◌, ◌++◌, [], length, drop, filter, replicate, Contains}
use Rattle.bt_tree.specs.Limits.{full_block_length}
use Rattle.bt_wire.specs.declared.message.Ask.{Ask}
use Rattle.bt_wire.specs.declared.message.Message.{Message}
use Rattle.bt_wire.specs.declared.message.Message.TheVariants.{Request, Piece}
use Rattle.bt_connection.specs.declared.padding.TheConstants.{MAX_REMEMBERED}
use Rattle.bt_connection.specs.ShortBlocks.{padded}

-- What is remembered of a peer: the requests that were given on shortened and that no piece has answered yet,
-- from the oldest on.
abbrev pub Memory : Type 0
Memory = List Ask

abbrev pub new_memory : Memory
new_memory = []

-- what is remembered, with one request more; beyond the limit the oldest is forgotten
abbrev pub with_asked : Memory → Ask → Memory
with_asked asked ask = drop (length asked - (MAX_REMEMBERED - 1)) asked ++ ask ∷ []

-- both name the same range of a piece
abbrev pub is_ask : Ask → Ask → Bool
is_ask ask other = other.piece == ask.piece && other.begin == ask.begin && other.length == ask.length

-- what is remembered, without a request
abbrev pub without : Memory → Ask → Memory
without asked ask = filter (λ other. not (is_ask ask other)) asked

-- the first of these that is the request is taken out
pub record IsTaken (old : Memory) (ask : Ask) (new : Memory) : Type 0 where
  pub before : List Ask
  pub after : List Ask
  pub was : old ≡ before ++ ask ∷ after
  pub first : ¬ Contains before ask
  pub now : new ≡ before ++ after

-- ---- what comes in

-- the message asks for one of these short blocks with its padding
abbrev pub AsksPadded : (blocks : List Ask) → Message → Ask → Type 0
AsksPadded blocks m ask = Contains blocks ask × (m ≡ Request (padded ask))

-- the message asks for one of them as the file has it
abbrev pub AsksExact : (blocks : List Ask) → Message → Ask → Type 0
AsksExact blocks m ask = Contains blocks ask × (m ≡ Request ask)

-- it asks for none of them, in neither way
abbrev pub AsksForNone : (blocks : List Ask) → Message → Type 0
AsksForNone blocks m = ((ask : Ask) → ¬ AsksPadded blocks m ask) × ((ask : Ask) → ¬ AsksExact blocks m ask)

-- What an engine gets of a message of its peer: a request for a padded block as one for what the file has,
-- and it is remembered; and any other message as it came. A request for a short block, in either way, comes
-- where those for it before have been answered or never are: they are forgotten.
pub data ComesIn (blocks : List Ask) (old : Memory) (m given : Message) (new : Memory) : Type 0 where
  request : (ask : Ask) → AsksPadded blocks m ask → given ≡ Request ask
      → new ≡ with_asked (without old ask) ask → ComesIn blocks old m given new
  exact : (ask : Ask) → AsksExact blocks m ask → given ≡ m → new ≡ without old ask
      → ComesIn blocks old m given new
  other : AsksForNone blocks m → given ≡ m → new ≡ old → ComesIn blocks old m given new

-- ---- what goes out

-- the answer to a remembered request for a short block
pub record Answers (blocks : List Ask) (old : Memory) (m : Message) (ask : Ask) (bytes : List ℕ)
    : Type 0 where
  pub remembered : Contains old ask
  pub short : Contains blocks ask
  pub whole : length bytes ≡ ask.length
  pub message : m ≡ Piece ask.piece ask.begin bytes

-- the bytes with zeros at the end, up to the length of a block
abbrev pub filled : List ℕ → List ℕ
filled bytes = bytes ++ replicate (full_block_length - length bytes) 0

-- What a peer gets of an engine's message: the answer to a remembered request filled up with zeros, and the
-- request is forgotten; and any other message as it is.
pub data GoesOut (blocks : List Ask) (old : Memory) (m given : Message) (new : Memory) : Type 0 where
  piece : (ask : Ask) (bytes : List ℕ) → Answers blocks old m ask bytes → IsTaken old ask new
      → given ≡ Piece ask.piece ask.begin (filled bytes) → GoesOut blocks old m given new
  other : ((ask : Ask) (bytes : List ℕ) → ¬ Answers blocks old m ask bytes) → given ≡ m → new ≡ old
      → GoesOut blocks old m given new
