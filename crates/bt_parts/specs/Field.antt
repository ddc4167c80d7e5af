-- The fields of a line, which are parted by one space, and what they spell.
use Rattle.std.specs.Prelude.{[], ◌≡◌, ℕ, ◌^◌, ◌<◌, ◌==◌, List, Option, None, Some}
use Rattle.std.specs.Borrow.{Bor}
use Rattle.std.specs.List.{slice_split}
use Rattle.std.specs.Str.Parse.{IsNumeral, digits_value}

abbrev pub fields_of : List ℕ → List (List ℕ)
fields_of text = slice_split (λ byte. byte == 32) text

-- the fields of what stands after a field, where something does
abbrev pub fields_in : Option (Bor (List ℕ)) → List (List ℕ)
fields_in None = []
fields_in (Some rest) = fields_of rest.now

-- one decimal digit or more, leading zeros among them, and no sign, of a number of 32 bits
pub record IsNumber (field : List ℕ) (n : ℕ) : Type 0 where
  pub digits : IsNumeral 10 field
  pub value : n ≡ digits_value 10 field
  pub fits : n < 2 ^ 32
