-- Numerals without a zero that may not stand, strings, and integers, in the bytes.
use Rattle.bt_bencode.proofs.Base.{◌≡◌, ℕ, ◌+◌, ◌-◌, ◌^◌, ◌<◌, ◌≤◌, Bool, false, inr, List, ◌∷◌, ◌++◌, length, take, drop, get_or, sym, ap, ◌∙◌, arith, length-drop, append_assoc, ◌≢◌, zero, suc, true, ◌⊎◌, inl, [], refl, add-zero, ℤ, pos, neg_ℤ, slice_range, IsTrue, ◌↔◌, FitsSigned, Option, None, Some, decimal, signed_decimal, IsNumeral, digits_value, without_leading_sign, signed_digits_value, take-append-drop, length-take-le, drop-drop, get_or_append_left, length-between, drop_split, drop-length, string_spelling, truncated, Fault, int_range, LeadsWithZero, sign_text, signed_number, NumeralStops, StringStops, in_bytes, Stops, in_integer, out_of_range, Spans, FaultFrom, IsNumeralAt, ReadsInteger, ints, SomeIff, ne_eqb}
use Rattle.std.proofs.lemmas.Str.Parse.{numerals_by_value, tells_digits, digit_at}
use Rattle.std.proofs.lemmas.Fmt.{decimal-digits_value, decimal_digit, IsAscii-from_digits}
use Rattle.bt_bencode.specs.Spelling.{spelling_of}
use Rattle.bt_bencode.proofs.ReadRanges.{drop_byte, drop_first, not_standing}
use Rattle.std.specs.Str.{IsAscii}
use Rattle.std.specs.Int.{from_bool, w64}

-- the digits are those that their value is written with
pub decimal_again : (negative : Bool) {ds : _} (more : List ℕ) → IsNumeral 10 ds → ¬ LeadsWithZero negative (ds ++ more) → digits_value 10 ds < 2 ^ 64
    → decimal (digits_value 10 ds) ≡ ds
decimal_again negative {ds} more numeral no_zero small =
    let at_left = λ (i : ℕ) (lt : i < length ds). get_or_append_left ds more 0 i lt in
    let alone : get_or ds 0 0 ≡ 48 → ¬ (1 < length ds) = λ first lt.
    no_zero (at_left 0 numeral.0 ∙ first, inr (rw (at_left 1 lt) (digit_at ds 1 numeral.1 lt))) in
    decimal-digits_value (numerals_by_value _ tells_digits) ds numeral.1 numeral.0 (λ first. omega (arith, alone first, numeral.0)) small

module _ {negative : Bool} {stop : ℕ} {bytes : List ℕ} {at end : ℕ} (numeral : IsNumeralAt negative stop bytes at end) where
  -- the digits, the byte after them, and the rest
  pub numeral_split : slice_range bytes at end ++ stop ∷ drop (end + 1) bytes ≡ drop at bytes
  numeral_split =
      let forward : at < end = numeral.forward in
      rw (← drop_byte bytes end numeral.inside numeral.stopped) (sym (drop_split bytes at end (omega arith)))

  pub numeral_digits : IsNumeral 10 (slice_range bytes at end)
  numeral_digits =
      (omega (arith, numeral.forward, length-between bytes at end (omega (arith, numeral.inside))), numeral.digits)

module _ {bytes : List ℕ} {at colon : ℕ} (numeral : IsNumeralAt false 58 bytes at colon) where
  pub string_read : {n s : _} → digits_value 10 (slice_range bytes at colon) ≡ n → n < 2 ^ 64 → colon + 1 + n ≤ length bytes
      → s ≡ take n (drop (colon + 1) bytes) → Spans bytes at (colon + 1 + n) (string_spelling s)
  string_read {n} {s} value small inside is =
      let ds = slice_range bytes at colon in
      let rest = drop (colon + 1) bytes in
      let forward : at < colon = numeral.forward in
      let parts : ds ++ 58 ∷ rest ≡ drop at bytes = numeral_split numeral in
      let size : length s ≡ n = ap length is ∙ length-take-le n rest (omega (arith, length-drop (colon + 1) bytes)) in
      let digits : decimal (length s) ≡ ds = ap decimal (size ∙ sym value)
      ∙ decimal_again false (58 ∷ rest) (numeral_digits numeral) (rw parts numeral.no_zero) (rw value small) in
      record {
        forward = omega arith;
        inside = inside;
        spelled = rw (
          append_assoc _ _ _,
          digits,
          is,
          ← drop-drop n _ bytes,
          take-append-drop n rest,
        ) parts;
      }

  pub string_short : length bytes - (colon + 1) < digits_value 10 (slice_range bytes at colon) → FaultFrom StringStops bytes at truncated (length bytes)
  string_short short = (
    omega arith,
    rw drop-length (in_bytes (slice_range bytes at colon) (drop (colon + 1) bytes) (sym (numeral_split numeral))
        (numeral_digits numeral) numeral.no_zero (omega (arith, length-drop (colon + 1) bytes))),
  )

-- whether a minus stands after `i`: the text there, and that a sign which is none hides no minus
pub record IsSigned (negative : Bool) (bytes : List ℕ) (at : ℕ) : Type 0 where
  text : drop (at + 1) bytes ≡ sign_text negative ++ drop (at + 1 + from_bool negative) bytes
  whole : IsTrue negative ⊎ (get_or (drop (at + 1 + from_bool negative) bytes) 0 0 ≢ 45)

pub is_signed : (b : Bool) {bytes : List ℕ} {at : ℕ} → IsTrue b ↔ ((at + 1 < length bytes) × (get_or bytes (at + 1) 0 ≡ 45)) → IsSigned b bytes at
is_signed true iff = record { text = drop_byte _ _ (iff.0 refl).0 (iff.0 refl).1; whole = inl refl }
is_signed false iff = record {
  text = rw (add-zero _) refl;
  whole = inr (rw (add-zero _, drop_first _ _) (not_standing _ _ 45 (omega arith) iff.1));
}

-- the same of a slice that ends after the sign
slice_of_sign : (negative : Bool) {bytes at : _} (end : ℕ) → IsSigned negative bytes at → at + 1 + from_bool negative < end
    → slice_range bytes (at + 1) end ≡ sign_text negative ++ slice_range bytes (at + 1 + from_bool negative) end
slice_of_sign false end signed lt = rw (add-zero _) refl
slice_of_sign true {at} end signed lt =
    let size : end - (at + 1) ≡ suc (end - (at + 1 + 1)) = omega arith in
    rw (size, signed.text) refl

-- what a sign and digits write, by std's words
record IsSignedText (negative : Bool) (ds text : List ℕ) : Type 0 where
  ascii : IsAscii text
  digits : without_leading_sign text ≡ ds
  number : signed_digits_value 10 text ≡ signed_number negative (digits_value 10 ds)

signed_text : (negative : Bool) (ds : List ℕ) → IsNumeral 10 ds → IsSignedText negative ds (sign_text negative ++ ds)
signed_text false [] numeral = absurd (omega (arith, numeral.0))
signed_text false (c ∷ ds) numeral =
    let digit = digit_at (c ∷ ds) 0 numeral.1 numeral.0 in
    let no_minus = ne_eqb c 45 (λ is. omega (arith, digit.0)) in
    let no_plus = ne_eqb c 43 (λ is. omega (arith, digit.0)) in
    record { ascii = IsAscii-from_digits (c ∷ ds) numeral.1; digits = rw (no_minus, no_plus) refl; number = rw (no_minus, no_plus) refl }
signed_text true ds numeral = record { ascii = ascii; digits = refl; number = refl }
  where
    ascii : IsAscii (45 ∷ ds)
    ascii zero = omega arith
    ascii (suc i) = IsAscii-from_digits ds numeral.1 i

-- an integer without a zero that may not stand is written as it stands
signed_again : (negative : Bool) (ds more : List ℕ) → IsNumeral 10 ds → ¬ LeadsWithZero negative (ds ++ more)
    → FitsSigned w64 (signed_number negative (digits_value 10 ds)) → signed_decimal (signed_number negative (digits_value 10 ds)) ≡ sign_text negative ++ ds
signed_again false ds more numeral no_zero fits = decimal_again false more numeral no_zero (omega (arith, ints, fits))
signed_again true ds more numeral no_zero fits = behind_minus _ (decimal_again true more numeral no_zero (omega (arith, ints, fits)))
  where
    behind_minus : (n : ℕ) → decimal n ≡ ds → signed_decimal (neg_ℤ (pos n)) ≡ 45 ∷ ds
    behind_minus zero same = absurd (no_zero (
      get_or_append_left ds more 0 0 numeral.0
          ∙ ap (λ xs. get_or xs 0 0) (sym same ∙ decimal_digit 0 (omega arith)),
      inl refl,
    ))
    behind_minus (suc n) same = ap (λ xs. 45 ∷ xs) same

module _ {bytes : List ℕ} {at : ℕ} {negative : Bool} (signed : IsSigned negative bytes at) (lt : at < length bytes) (first : get_or bytes at 0 ≡ 105) where
  -- a numeral that stops a reading, after `i` and the sign
  pub integer_stops : {n : ℕ} (f : Fault) (rest : List ℕ) → NumeralStops negative 101 (drop (at + 1 + from_bool negative) bytes) f rest
      → Stops n (drop at bytes) f rest
  integer_stops {n} f rest stops = rw (drop_byte _ at lt first, signed.text) (in_integer n negative _ f rest signed.whole stops)

  module _ {end : ℕ} (numeral : IsNumeralAt negative 101 bytes (at + 1 + from_bool negative) end) where
    -- what is written after `i`: the sign and the digits, and what comes after the e
    record Parts (ds rest : List ℕ) : Type 0 where
      digits : IsNumeral 10 ds
      no_zero : ¬ LeadsWithZero negative (ds ++ 101 ∷ rest)
      text : drop at bytes ≡ 105 ∷ (sign_text negative ++ (ds ++ 101 ∷ rest))
      written : IsSignedText negative ds (slice_range bytes (at + 1) end)

    parts : Parts (slice_range bytes (at + 1 + from_bool negative) end) (drop (end + 1) bytes)
    parts =
        let split = numeral_split numeral in
        let digits = numeral_digits numeral in
        record {
          digits = digits;
          no_zero = rw split numeral.no_zero;
          text = rw (split, ← signed.text) (drop_byte bytes at lt first);
          written = rw (slice_of_sign _ end signed numeral.forward) (signed_text _ _ digits);
        }

    pub integer_is_ascii : IsAscii (slice_range bytes (at + 1) end)
    integer_is_ascii = parts.written.ascii

    -- what a reading of that text as an integer says
    abbrev Says : Option ℤ → Type 0
    Says r = let text = slice_range bytes (at + 1) end in
        let z = signed_digits_value 10 text in SomeIff r (IsNumeral 10 (without_leading_sign text) × FitsSigned w64 z) z

    pub integer_found : {z : ℤ} → Says (Some z) → ReadsInteger bytes at (end + 1) z
    unfolding spelling_of
    integer_found says =
        let said = rw parts.written.number at says in
        let forward : at + 1 + from_bool negative < end = numeral.forward in
        let inside : end < length bytes = numeral.inside in
        rw said.1 (record {
          fits = said.0.1;
          spans = record {
            forward = omega arith;
            inside = omega arith;
            spelled = rw (
              append_assoc _ (101 ∷ []) (drop (end + 1) bytes),
              signed_again negative _ _ parts.digits parts.no_zero said.0.1,
              append_assoc (sign_text negative) _ (101 ∷ drop (end + 1) bytes),
            ) (sym parts.text);
          };
        })

    pub integer_out_of_range : (n : ℕ) → Says None → FaultFrom (Stops n) bytes at int_range (at + 1)
    integer_out_of_range n says =
        let behind : drop (at + 1) bytes ≡ sign_text negative ++ (slice_range bytes (at + 1 + from_bool negative) end ++ 101 ∷ drop (end + 1) bytes) =
        ap (drop 1) (sym (drop_byte bytes at lt first) ∙ parts.text) in (
          omega arith,
          rw (parts.text, behind) (out_of_range n negative _ _ parts.digits parts.no_zero
              (λ fits. says (rw parts.written.digits parts.digits, rw parts.written.number fits))),
        )
