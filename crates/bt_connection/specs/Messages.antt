-- The messages of a peer, one after the other (BEP 3), and those that may carry a whole block.
use Rattle.std.specs.Prelude.{◌≡◌, ℕ, ◌+◌, ◌-◌, ◌≤◌, List, [], ◌++◌, length, get_or, take, drop}
use Rattle.bt_wire.specs.Limits.{piece_kind}
use Rattle.bt_wire.specs.declared.frames.TheConstants.{BLOCK_MESSAGE_LEN}
use Rattle.bt_wire.specs.Frames.{IsFrame, HasNoMessage, message_length}

-- a message that begins so may carry a whole block, as far as its length and its kind are there
pub record MayCarryBlock (bytes : List ℕ) : Type 0 where
  pub size : 4 ≤ length bytes → message_length bytes ≡ BLOCK_MESSAGE_LEN
  pub kind : 5 ≤ length bytes → get_or bytes 4 0 ≡ piece_kind

-- no message is whole at the front of these bytes, and the one that begins there may carry a whole block
pub record IsHeld (bytes : List ℕ) : Type 0 where
  pub part : HasNoMessage bytes
  pub block : MayCarryBlock bytes

-- messages, one after the other
pub data AreMessages : List ℕ → Type 0 where
  no_message : AreMessages []
  one_more : (before message : List ℕ) → AreMessages before → IsFrame message
      → AreMessages (before ++ message)

-- a message is a piece with a whole block, by its length and its kind
pub record CarriesBlock (message : List ℕ) : Type 0 where
  pub size : length message ≡ BLOCK_MESSAGE_LEN
  pub kind : get_or message 4 0 ≡ piece_kind

-- a message as long as a piece with a whole block
pub record IsBlockLong (message : List ℕ) : Type 0 where
  pub frame : IsFrame message
  pub size : length message ≡ BLOCK_MESSAGE_LEN

-- such a message begins where `left` of the bytes are left, and is whole among the first `ready`
pub record IsLongAt (bytes : List ℕ) (ready left : ℕ) : Type 0 where
  pub there : left ≤ length bytes
  pub message : IsBlockLong (take BLOCK_MESSAGE_LEN (drop (length bytes - left) bytes))
  pub within : length bytes - left + BLOCK_MESSAGE_LEN ≤ ready

-- Bytes before which `owed` bytes of a message were to come, and after which `left` bytes of one are: they
-- are a part of the rest of that message; or the rest of it and whole messages; or these and the beginning of a
-- message.
pub data Leads : ℕ → List ℕ → ℕ → Type 0 where
  in_message : (part : List ℕ) (left : ℕ) → Leads (length part + left) part left
  to_message : (rest messages : List ℕ) → AreMessages messages → Leads (length rest) (rest ++ messages) 0
  into_message : (rest messages begin : List ℕ) (left : ℕ) → AreMessages messages → 4 ≤ length begin
      → message_length begin ≡ length begin + left → Leads (length rest) ((rest ++ messages) ++ begin) left
