-- The end of a message, as only the private steps of this crate speak of it. Sections are those of FIPS
-- 180-4.
use Rattle.std.specs.Prelude.{◌≡◌, ℕ, ◌+◌, ◌*◌, ◌/◌, ◌%◌, List, ◌++◌, length, take, drop}
use Rattle.sha2.specs.Sha256.{padding}

-- how many message blocks are filled by the bytes after the last whole one and the padding, which has 9
-- bytes at least: two where the rest leaves fewer, else one
abbrev pub tail_block_count : ℕ → ℕ
tail_block_count message_length = (message_length % 64 + 8) / 64 + 1

-- 128 bytes that begin with those of the message after its last whole block and its padding (5.1.1)
pub record IsTail (message tail : List ℕ) : Type 0 where
  pub size : length tail ≡ 128
  pub padded : take (64 * tail_block_count (length message)) tail
      ≡ drop (length message / 64 * 64) message ++ padding (length message)
