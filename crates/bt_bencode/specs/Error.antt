-- The faults of bytes that are no canonical spelling (BEP 3, "bencoding"), and what an error says of one.
use Rattle.std.specs.Prelude.{ℕ}
use Rattle.bt_bencode.specs.declared.error.BencodeError.{BencodeError}
use Rattle.bt_bencode.specs.declared.error.BencodeError.TheVariants.{Truncated, BadByte, LeadingZero}
use Rattle.bt_bencode.specs.declared.error.BencodeError.TheVariants.{IntRange, KeyOrder, TooDeep}
use Rattle.bt_bencode.specs.declared.error.BencodeError.TheVariants.{Trailing, OutOfMemory}

pub data Fault : Type 0 where
  truncated bad_byte leading_zero int_range key_order too_deep trailing : Fault

-- what an error says of its fault and offset; out of memory says nothing
abbrev pub AtFault : (Fault → ℕ → Type 0) → BencodeError → Type 0
AtFault P (Truncated offset) = P truncated offset
AtFault P (BadByte offset) = P bad_byte offset
AtFault P (LeadingZero offset) = P leading_zero offset
AtFault P (IntRange offset) = P int_range offset
AtFault P (KeyOrder offset) = P key_order offset
AtFault P (TooDeep offset) = P too_deep offset
AtFault P (Trailing offset) = P trailing offset
AtFault P OutOfMemory = Unit {0}
