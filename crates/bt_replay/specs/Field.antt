-- Parts of a text, and what the fields of a line spell.
use Rattle.std.specs.Prelude.{[], ◌≡◌, ℕ, ◌<◌, ◌==◌, List, Option, Some, None, Ok, length}
use Rattle.std.specs.List.{slice_split}
use Rattle.std.specs.Option.{option_copied}
use Rattle.std.specs.Borrow.{Bor}
use Rattle.std.specs.Str.Parse.{IsNumeral, digits_value}
use Rattle.hex.specs.Hex.{decode_of}

-- the parts of a text that is parted by each byte of this kind
abbrev pub parts_of : (mark : ℕ) → List ℕ → List (List ℕ)
parts_of mark text = slice_split (λ byte. byte == mark) text

-- those after the first one, which has something after it or not
abbrev pub more_parts : (mark : ℕ) → Option (List ℕ) → List (List ℕ)
more_parts mark None = []
more_parts mark (Some rest) = parts_of mark rest

-- the fields after a line's word, which are parted by one space
abbrev pub fields_in : Option (Bor (List ℕ)) → List (List ℕ)
fields_in rest = more_parts 32 (option_copied rest)

-- one decimal digit or more, leading zeros among them, and no sign
pub record IsNumber (limit : ℕ) (field : List ℕ) (n : ℕ) : Type 0 where
  pub digits : IsNumeral 10 field
  pub value : n ≡ digits_value 10 field
  pub fits : n < limit

-- one byte or more, in digits of either case
pub record IsHex (field bytes : List ℕ) : Type 0 where
  pub some : 0 < length field
  pub spelled : decode_of field ≡ Ok bytes
