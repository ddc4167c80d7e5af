-- What a reader at an offset of the bytes tells: for private steps of the reader alone.
use Rattle.std.specs.Prelude.{◌≡◌, ℕ, ℤ, Bool, ◌<◌, ◌≤◌, List, ◌++◌, length}
use Rattle.std.specs.Prelude.{drop, slice_index, slice_range, FitsSigned}
use Rattle.std.specs.Int.{w64}
use Rattle.std.specs.Str.Parse.{AllDigits}
use Rattle.bt_bencode.specs.Value.{Data, integer}
use Rattle.bt_bencode.specs.Spelling.{string_spelling, spelling_of}
use Rattle.bt_bencode.specs.Doc.{IsCanonicalWithin}
use Rattle.bt_bencode.specs.Error.{Fault}
use Rattle.bt_bencode.specs.Number.{LeadsWithZero}

-- the bytes from `at` to `end` are this text
pub record Spans (bytes : List ℕ) (at end : ℕ) (text : List ℕ) : Type 0 where
  pub forward : at < end
  pub inside : end ≤ length bytes
  pub spelled : text ++ drop end bytes ≡ drop at bytes

-- a fault whose offset lies in the bytes, by what stops a reading from `at` with which bytes left
abbrev pub FaultFrom : (List ℕ → Fault → List ℕ → Type 0) → List ℕ → ℕ → Fault → ℕ → Type 0
FaultFrom stops bytes at f offset = (offset ≤ length bytes) × stops (drop at bytes) f (drop offset bytes)

-- a numeral from `at` to `end`, with no zero that may not stand, and then the byte `stop`
pub record IsNumeralAt (negative : Bool) (stop : ℕ) (bytes : List ℕ) (at end : ℕ) : Type 0 where
  pub forward : at < end
  pub inside : end < length bytes
  pub digits : AllDigits 10 (slice_range bytes at end)
  pub no_zero : ¬ LeadsWithZero negative (drop at bytes)
  pub stopped : slice_index bytes end ≡ stop

-- a canonical value of nesting at most n from `at` to `end`
pub record ReadsValue (n : ℕ) (bytes : List ℕ) (at end : ℕ) (d : Data) : Type 0 where
  pub spans : Spans bytes at end (spelling_of d)
  pub canonical : IsCanonicalWithin n d

abbrev pub ReadsString : List ℕ → ℕ → ℕ → List ℕ → Type 0
ReadsString bytes at end s = Spans bytes at end (string_spelling s)

-- an integer from `at` to `end`
pub record ReadsInteger (bytes : List ℕ) (at end : ℕ) (z : ℤ) : Type 0 where
  pub spans : Spans bytes at end (spelling_of (integer z))
  pub fits : FitsSigned w64 z
