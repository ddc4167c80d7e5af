-- What first stops a reading of a canonical spelling (BEP 3, "bencoding"), and with which bytes left.
use Rattle.std.specs.Prelude.{◌≡◌, ◌≢◌, ℕ, suc, ◌<◌, ◌≤◌, Bool, false, IsTrue, ◌⊎◌, List, [], ◌∷◌, ◌++◌}
use Rattle.std.specs.Prelude.{length, take, drop, slice_index, Option, None, Some, IfSome, unwrap_or, FitsSigned}
use Rattle.std.specs.Int.{w64}
use Rattle.std.specs.Char.{IsAsciiDigit}
use Rattle.std.specs.Str.Parse.{IsNumeral, digits_value}
use Rattle.bt_bencode.specs.Letters.{letter_i, letter_l, letter_d, letter_e, colon, minus}
use Rattle.bt_bencode.specs.declared.reader.TheConstants.{MAX_NESTING}
use Rattle.bt_bencode.specs.Value.{Data, list, dictionary, Items, Entries, no_entries, entry}
use Rattle.bt_bencode.specs.Spelling.{string_spelling, spelling_of, items_spelling, entries_spelling}
use Rattle.bt_bencode.specs.Doc.{IsBefore, IsCanonicalWithin, IsCanonical}
use Rattle.bt_bencode.specs.Error.{Fault, truncated, bad_byte, int_range, key_order, too_deep, trailing}
use Rattle.bt_bencode.specs.Number.{sign_text, signed_number, LeadsWithZero, NumeralStops}

-- the text does not begin with a string
pub data StringStops (text : List ℕ) : Fault → List ℕ → Type 0 where
  in_length : (f : Fault) (rest : List ℕ) → NumeralStops false colon text f rest → StringStops text f rest
  in_bytes : (ds more : List ℕ) → text ≡ ds ++ colon ∷ more
      → IsNumeral 10 ds → ¬ LeadsWithZero false text → length more < digits_value 10 ds
      → StringStops text truncated []

-- the last of the keys
abbrev pub last_key_of : Entries → Option (List ℕ)
last_key_of no_entries = None
last_key_of (entry key d es) = Some (unwrap_or (last_key_of es) key)

-- the last of the keys, if there is one, is before this key
abbrev pub EndsBefore : Entries → List ℕ → Type 0
EndsBefore es key = IfSome (last_key_of es) (λ last. IsBefore last key)

-- the text does not begin with a canonical value of nesting at most n: f stops the reading before rest
pub data Stops : ℕ → List ℕ → Fault → List ℕ → Type 0 where
  -- the text is at its end
  at_end : (n : ℕ) → Stops n [] truncated []
  -- a byte that begins no value
  at_other : (n : ℕ) (text : List ℕ) → 0 < length text
      → slice_index text 0 ≢ letter_i → slice_index text 0 ≢ letter_l → slice_index text 0 ≢ letter_d
      → ¬ IsAsciiDigit (slice_index text 0)
      → Stops n text bad_byte text
  -- an integer: after its sign, all of it, stands no numeral with an e after it
  in_integer : (n : ℕ) (negative : Bool) (more : List ℕ) (f : Fault) (rest : List ℕ)
      → IsTrue negative ⊎ (slice_index more 0 ≢ minus)
      → NumeralStops negative letter_e more f rest
      → Stops n (letter_i ∷ (sign_text negative ++ more)) f rest
  -- an integer of right form, of more than 64 bits
  out_of_range : (n : ℕ) (negative : Bool) (ds more : List ℕ) → IsNumeral 10 ds
      → ¬ LeadsWithZero negative (ds ++ letter_e ∷ more)
      → ¬ FitsSigned w64 (signed_number negative (digits_value 10 ds))
      → Stops n (letter_i ∷ (sign_text negative ++ (ds ++ letter_e ∷ more))) int_range
      (sign_text negative ++ (ds ++ letter_e ∷ more))
  -- a string, which begins with a digit
  in_string : (n : ℕ) (text : List ℕ) (f : Fault) (rest : List ℕ) → IsAsciiDigit (slice_index text 0)
      → StringStops text f rest
      → Stops n text f rest
  -- a list or a dictionary where none may begin
  at_max_nesting : (opening : ℕ) (more : List ℕ) → (opening ≡ letter_l) ⊎ (opening ≡ letter_d)
      → Stops 0 (opening ∷ more) too_deep (opening ∷ more)
  -- a list: whole items, and then the next one stops
  in_item : (n : ℕ) (done : Items) (more : List ℕ) (f : Fault) (rest : List ℕ)
      → IsCanonicalWithin (suc n) (list done) → slice_index more 0 ≢ letter_e
      → Stops n more f rest
      → Stops (suc n) (letter_l ∷ (items_spelling done ++ more)) f rest
  -- a dictionary: whole entries, and then the next key stops
  in_key : (n : ℕ) (done : Entries) (more : List ℕ) (f : Fault) (rest : List ℕ)
      → IsCanonicalWithin (suc n) (dictionary done) → slice_index more 0 ≢ letter_e
      → StringStops more f rest
      → Stops (suc n) (letter_d ∷ (entries_spelling done ++ more)) f rest
  -- a dictionary: whole entries, and then a key that is not above the last
  at_key : (n : ℕ) (done : Entries) (key more : List ℕ)
      → IsCanonicalWithin (suc n) (dictionary done) → ¬ EndsBefore done key
      → Stops (suc n) (letter_d ∷ (entries_spelling done ++ (string_spelling key ++ more))) key_order
      (string_spelling key ++ more)
  -- a dictionary: whole entries, a key, and then its value stops
  in_value : (n : ℕ) (done : Entries) (key more : List ℕ) (f : Fault) (rest : List ℕ)
      → IsCanonicalWithin (suc n) (dictionary done) → EndsBefore done key
      → Stops n more f rest
      → Stops (suc n) (letter_d ∷ (entries_spelling done ++ (string_spelling key ++ more))) f rest

-- the first fault of the bytes as one value's whole spelling, and its offset
pub data IsFirstFault (bytes : List ℕ) : Fault → ℕ → Type 0 where
  in_the_value : (f : Fault) (offset : ℕ) → offset ≤ length bytes
      → Stops MAX_NESTING bytes f (drop offset bytes)
      → IsFirstFault bytes f offset
  behind_the_value : (d : Data) (offset : ℕ) → IsCanonical d → offset < length bytes
      → spelling_of d ++ drop offset bytes ≡ bytes
      → IsFirstFault bytes trailing offset

-- a canonical value ends at the offset, and bytes follow
pub record IsValueEnd (bytes : List ℕ) (offset : ℕ) : Type 0 where
  pub value : Data
  pub canonical : IsCanonical value
  pub spelled : spelling_of value ≡ take offset bytes
  pub followed : offset < length bytes

-- no canonical value has these bytes as its spelling
abbrev pub NoneSpells : List ℕ → Type 0
NoneSpells bytes = (d : Data) → IsCanonical d → spelling_of d ≢ bytes
