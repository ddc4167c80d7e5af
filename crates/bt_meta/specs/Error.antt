-- How a fault of the bencoding is answered.
use Rattle.bt_bencode.specs.declared.error.BencodeError.{BencodeError}
use Rattle.bt_bencode.specs.declared.error.BencodeError.TheVariants.{Truncated, BadByte, LeadingZero, IntRange, KeyOrder, TooDeep, Trailing, OutOfMemory as no_memory}
use Rattle.bt_meta.specs.declared.error.MetaError.{MetaError}
use Rattle.bt_meta.specs.declared.error.MetaError.TheVariants.{Bencode, OutOfMemory}

abbrev pub refusal_of : BencodeError → MetaError
refusal_of no_memory = OutOfMemory
refusal_of (Truncated at) = Bencode (Truncated at)
refusal_of (BadByte at) = Bencode (BadByte at)
refusal_of (LeadingZero at) = Bencode (LeadingZero at)
refusal_of (IntRange at) = Bencode (IntRange at)
refusal_of (KeyOrder at) = Bencode (KeyOrder at)
refusal_of (TooDeep at) = Bencode (TooDeep at)
refusal_of (Trailing at) = Bencode (Trailing at)
