-- Numerals, their signs, and what first stops a reading of one (BEP 3, "bencoding"), with which bytes left.
use Rattle.std.specs.Prelude.{◌≡◌, ◌≢◌, ℕ, ℤ, pos, neg_ℤ, ◌<◌, Bool, IsTrue, ◌⊎◌}
use Rattle.std.specs.Prelude.{List, [], ◌∷◌, ◌++◌, length, slice_index, if◌then◌else◌}
use Rattle.std.specs.Char.{IsAsciiDigit}
use Rattle.std.specs.Str.Parse.{AllDigits}
use Rattle.bt_bencode.specs.Letters.{digit_zero, minus}
use Rattle.bt_bencode.specs.Error.{Fault, truncated, bad_byte, leading_zero}

-- what stands before the digits of a number below zero, or of another one
abbrev pub sign_text : Bool → List ℕ
sign_text negative = if negative then minus ∷ [] else []

abbrev pub signed_number : Bool → ℕ → ℤ
signed_number negative n = if negative then neg_ℤ (pos n) else pos n

-- a zero that may not stand: after a minus, or before another digit
abbrev pub LeadsWithZero : Bool → List ℕ → Type 0
LeadsWithZero negative text =
    (slice_index text 0 ≡ digit_zero) × (IsTrue negative ⊎ IsAsciiDigit (slice_index text 1))

-- the text has no whole numeral with the byte `stop` after it, perhaps since it ends too early
pub data NumeralStops (negative : Bool) (stop : ℕ) (text : List ℕ) : Fault → List ℕ → Type 0 where
  at_zero : LeadsWithZero negative text → NumeralStops negative stop text leading_zero text
  at_end : AllDigits 10 text → ¬ LeadsWithZero negative text → NumeralStops negative stop text truncated []
  at_other : (ds more : List ℕ) → text ≡ ds ++ more → AllDigits 10 ds → ¬ LeadsWithZero negative text
      → 0 < length more → ¬ IsAsciiDigit (slice_index more 0)
      → (ds ≡ []) ⊎ (slice_index more 0 ≢ stop)
      → NumeralStops negative stop text bad_byte more
