-- A reading of a text from the left as a function of the text: what it says of numerals, strings and integers.
use Rattle.bt_bencode.proofs.Base.{◌≡◌, ◌≢◌, ℕ, ℤ, pos, negsuc, ◌^◌, ◌<◌, Bool, true, false, ◌⊎◌, inl, inr, List, [], ◌∷◌, ◌++◌, length, get_or, take, drop, refl, sym, ap, ◌∙◌, subst, arith, append_assoc, length-append, FitsSigned, IsTrue, if◌then◌else◌, ◌==◌, ◌&&◌, ◌||◌, Decides, int_eq, IsAsciiDigit, is_ascii_digit, decimal, signed_decimal, AllDigits, IsNumeral, digits_value, eqb, ltb, take-append_seam, drop-append_seam, eq-eqb, ne_eqb, ints, SFits-int_wrap, int_wrap_fits, append-nil, get_or_append_left, string_spelling, Fault, truncated, bad_byte, leading_zero, int_range, sign_text, signed_number, LeadsWithZero, NumeralStops, at_zero, StringStops, in_length, in_bytes}
use Rattle.std.specs.Int.{w64, int_wrap}
use Rattle.std.proofs.lemmas.Bool.Decides.{Decides-eqb, Decides-and, Decides-or, Decides-ltb, Decides-like, Decides-int_eq, nat_tests}
use Rattle.std.proofs.lemmas.Str.Parse.{digit_at, digit_from_value}
use Rattle.std.proofs.lemmas.Fmt.{decimal_is_IsNumeral, decimal_nonempty, decimal_digit, first_decimal}
use Rattle.bt_bencode.specs.Number.{at_end, at_other}

-- what was read and what comes after it, or what stopped the reading and with which bytes left
pub data Outcome (A : Type 0) : Type 0 where
  read : A → List ℕ → Outcome A
  stopped : Fault → List ℕ → Outcome A

abbrev pub after : {A B : Type 0} → Outcome A → (Fault → List ℕ → B) → (A → List ℕ → B) → B
after (read a rest) halt next = next a rest
after (stopped f rest) halt next = halt f rest

pub denied : {P : Type 0} (r : Bool) → Decides r P → ¬ P → r ≡ false
denied true decides not = absurd (not (decides.0 refl))
denied false decides not = refl

pub digit_decides : (c : ℕ) → Decides (is_ascii_digit c) (IsAsciiDigit c)
digit_decides c = grind (arith, nat_tests)

-- the digits in front, and what comes after them
digits_of : List ℕ → List ℕ × List ℕ
digits_of [] = ([], [])
digits_of (c ∷ text) = if is_ascii_digit c then (c ∷ (digits_of text).0, (digits_of text).1) else ([], c ∷ text)

digits_split : (ds rest : List ℕ) → AllDigits 10 ds → ¬ IsAsciiDigit (get_or rest 0 0) → digits_of (ds ++ rest) ≡ (ds, rest)
unfolding digits_of
digits_split [] [] digits other = refl
digits_split [] (c ∷ rest) digits other = rw (denied _ (digit_decides c) other) refl
digits_split (d ∷ ds) rest digits other =
    rw ((digit_decides d).1 (digit_from_value d digits.0), digits_split ds rest digits.1 other) refl

leads : Bool → List ℕ → Bool
leads negative text = (get_or text 0 0 == 48) && (negative || is_ascii_digit (get_or text 1 0))

leads_decides : (negative : Bool) (text : List ℕ) → Decides (leads negative text) (LeadsWithZero negative text)
unfolding leads
leads_decides negative text = Decides-and _ _ (Decides-eqb _ 48)
    (Decides-or _ _ (λ is. is, λ is. is) (digit_decides _))

behind_digits : ℕ → List ℕ → List ℕ → Outcome (List ℕ)
behind_digits stop ds [] = stopped truncated []
behind_digits stop [] (c ∷ rest) = stopped bad_byte (c ∷ rest)
behind_digits stop (d ∷ ds) (c ∷ rest) = if eqb c stop then read (d ∷ ds) rest else stopped bad_byte (c ∷ rest)

pub read_numeral : Bool → ℕ → List ℕ → Outcome (List ℕ)
read_numeral negative stop text =
    if leads negative text then stopped leading_zero text else behind_digits stop (digits_of text).0 (digits_of text).1

split_read : (negative : Bool) (stop : ℕ) (ds rest : List ℕ) {text : _} → text ≡ ds ++ rest → AllDigits 10 ds → ¬ LeadsWithZero negative text
    → ¬ IsAsciiDigit (get_or rest 0 0) → read_numeral negative stop text ≡ behind_digits stop ds rest
unfolding read_numeral
split_read negative stop ds rest {text} parts digits no_lead other =
    rw (denied _ (leads_decides negative text) no_lead, parts, digits_split ds rest digits other) refl

other_behind : (stop : ℕ) (ds more : List ℕ) → 0 < length more → (ds ≡ []) ⊎ (get_or more 0 0 ≢ stop) → behind_digits stop ds more ≡ stopped bad_byte more
unfolding behind_digits
other_behind stop ds [] some differs = absurd (omega arith)
other_behind stop [] (c ∷ rest) some differs = refl
other_behind stop (d ∷ ds) (c ∷ rest) some (inl none) = cc
other_behind stop (d ∷ ds) (c ∷ rest) some (inr other) = rw (ne_eqb c _ other) refl

pub numeral_stops : {negative stop text f rest : _} → NumeralStops negative stop text f rest
    → read_numeral negative stop text ≡ stopped f rest
unfolding read_numeral behind_digits
numeral_stops {text} (at_zero is) = rw ((leads_decides _ text).1 is) refl
numeral_stops {text} (at_end digits no_lead) =
    split_read _ _ text [] (sym (append-nil _)) digits no_lead (λ digit. absurd (omega (arith, digit.0)))
numeral_stops (at_other ds more parts digits no_lead some other differs) =
    split_read _ _ ds more parts digits no_lead other ∙ other_behind _ ds _ some differs

pub numeral_read : (negative : Bool) (stop : ℕ) (ds : List ℕ) {rest : _} → 57 < stop → IsNumeral 10 ds → ¬ LeadsWithZero negative (ds ++ stop ∷ rest)
    → read_numeral negative stop (ds ++ stop ∷ rest) ≡ read ds rest
unfolding behind_digits
numeral_read negative stop [] high numeral no_zero = absurd (omega (arith, numeral.0))
numeral_read negative stop (d ∷ ds) {rest} high numeral no_zero =
    split_read _ stop (d ∷ ds) (stop ∷ rest) refl numeral.1 no_zero (λ digit. omega (arith, digit.1)) ∙ rw (eq-eqb _ _ refl) refl

-- a number's digits have no zero that may not stand, and after a minus none but 0 itself begins with one
decimal_no_zero : (negative : Bool) (n stop : ℕ) (rest : List ℕ) → (IsTrue negative → 0 < n) → n < 2 ^ 64 → 57 < stop
    → ¬ LeadsWithZero negative (decimal n ++ stop ∷ rest)
decimal_no_zero negative n stop rest some fits high leads =
    let none : ¬ (0 < n) = λ above.
    omega (arith, leads.0, first_decimal n above fits, get_or_append_left (decimal n) (stop ∷ rest) 0 0 (decimal_nonempty n fits)) in
    elim leads.1 [
      | inl is ↦ none (some is)
      | inr digit ↦ let text : decimal n ≡ 48 ∷ [] = ap decimal (omega (arith, none)) ∙ decimal_digit 0 (omega arith) in
          omega (arith, (rw text at digit).1)
    ]

pub read_string : List ℕ → Outcome (List ℕ)
read_string text = after (read_numeral false 58 text) stopped (λ ds rest. let n = digits_value 10 ds in
    if ltb (length rest) n then stopped truncated [] else read (take n rest) (drop n rest))

pub string_read : {s rest : _} → length s < 2 ^ 64 → read_string (string_spelling s ++ rest) ≡ read s rest
unfolding read_string
string_read {s} {rest} fits =
    let numeral = decimal_is_IsNumeral (length s) fits in
    let whole : ltb (length (s ++ rest)) (length s) ≡ false = grind (arith, nat_tests, length-append s rest) in
    rw (
      append_assoc _ (58 ∷ s) rest,
      numeral_read false 58 _ (omega arith) numeral.0 (decimal_no_zero _ (length s) _ _ (λ is. cc) fits (omega arith)),
      numeral.1,
      whole,
      take-append_seam s rest,
      drop-append_seam s rest,
    ) refl

pub string_stops : {text f rest : _} → StringStops text f rest → read_string text ≡ stopped f rest
unfolding read_string
string_stops (in_length f rest stops) = rw (numeral_stops stops) refl
string_stops (in_bytes ds more parts numeral no_lead short) =
    let shorter : ltb (length more) (digits_value 10 ds) ≡ true = (Decides-ltb _ _).1 short in
    rw (parts, numeral_read _ 58 _ (omega arith) numeral (rw parts at no_lead), shorter) refl

-- the sign in front, and what comes after it
sign_of : List ℕ → Bool × List ℕ
sign_of text = if eqb (get_or text 0 0) 45 then (true, drop 1 text) else (false, text)

sign_split : (negative : Bool) {text : List ℕ} → IsTrue negative ⊎ (get_or text 0 0 ≢ 45) → sign_of (sign_text negative ++ text) ≡ (negative, text)
unfolding sign_of
sign_split true whole = refl
sign_split false (inl is) = cc
sign_split false (inr other) = rw (ne_eqb _ 45 other) refl

is_small : ℤ → Bool
is_small z = int_eq (int_wrap w64 z) z

small_decides : (z : ℤ) → Decides (is_small z) (FitsSigned w64 z)
unfolding is_small
small_decides z = Decides-like _ (λ same. subst (FitsSigned w64) same (SFits-int_wrap w64 z)) (int_wrap_fits w64 z) (Decides-int_eq _ z)

-- an integer, after its i
pub read_integer : List ℕ → Outcome ℤ
read_integer text = after (read_numeral (sign_of text).0 101 (sign_of text).1) stopped (λ ds rest.
    let z = signed_number (sign_of text).0 (digits_value 10 ds) in
    if is_small z then read z rest else stopped int_range text)

pub integer_stops : {negative : Bool} {more : List ℕ} {f : Fault} {rest : List ℕ} → IsTrue negative ⊎ (get_or more 0 0 ≢ 45)
    → NumeralStops negative 101 more f rest → read_integer (sign_text negative ++ more) ≡ stopped f rest
unfolding read_integer
integer_stops whole stops = rw (sign_split _ whole, numeral_stops stops) refl

integer_behind : (negative : Bool) (ds more : List ℕ) → IsNumeral 10 ds → ¬ LeadsWithZero negative (ds ++ 101 ∷ more)
    → read_integer (sign_text negative ++ (ds ++ 101 ∷ more)) ≡ (let z = signed_number negative (digits_value 10 ds) in
    if is_small z then read z more else stopped int_range (sign_text negative ++ (ds ++ 101 ∷ more)))
unfolding read_integer
integer_behind negative ds more numeral no_zero =
    let plain : get_or (ds ++ 101 ∷ more) 0 0 ≢ 45 = λ is.
    omega (arith, (digit_at ds 0 numeral.1 numeral.0).0, get_or_append_left ds (101 ∷ more) 0 0 numeral.0) in
    rw (sign_split _ (inr plain), numeral_read _ 101 _ (omega arith) numeral no_zero) refl

pub range_stops : (negative : Bool) (ds more : List ℕ) → IsNumeral 10 ds → ¬ LeadsWithZero negative (ds ++ 101 ∷ more)
    → ¬ FitsSigned w64 (signed_number negative (digits_value 10 ds))
    → read_integer (sign_text negative ++ (ds ++ 101 ∷ more)) ≡ stopped int_range (sign_text negative ++ (ds ++ 101 ∷ more))
range_stops negative ds more numeral no_zero out =
    rw (integer_behind _ _ _ numeral no_zero, denied _ (small_decides _) out) refl

integer_of_parts : (negative : Bool) (n : ℕ) {rest : _} → n < 2 ^ 64 → (IsTrue negative → 0 < n) → FitsSigned w64 (signed_number negative n)
    → read_integer ((sign_text negative ++ decimal n) ++ 101 ∷ rest) ≡ read (signed_number negative n) rest
integer_of_parts negative n fits some small =
    let numeral = decimal_is_IsNumeral n fits in
    rw (
      append_assoc _ _ _,
      integer_behind _ _ _ numeral.0 (decimal_no_zero _ n 101 _ some fits (omega arith)),
      numeral.1,
      (small_decides _).1 small,
    ) refl

pub integer_read : (z : ℤ) {rest : _} → FitsSigned w64 z → read_integer (signed_decimal z ++ 101 ∷ rest) ≡ read z rest
integer_read (pos n) fits = integer_of_parts false n (omega (arith, ints, fits)) (λ is. cc) fits
integer_read (negsuc n) fits = integer_of_parts true _ (omega (arith, ints, fits)) (λ is. omega arith) fits

-- a string begins with a digit
pub string_digit : (s rest : List ℕ) → length s < 2 ^ 64 → IsAsciiDigit (get_or (string_spelling s ++ rest) 0 0)
string_digit s rest fits =
    let some : 0 < length (decimal (length s)) = decimal_nonempty _ fits in
    rw (append_assoc _ _ _, get_or_append_left _ _ 0 0 some)
    (digit_at _ 0 (decimal_is_IsNumeral _ fits).0.1 some)
