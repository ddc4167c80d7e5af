-- Lemmas on hexadecimal digits.
use Rattle.std.proofs.Common.{◌≡◌, ℕ, ◌%◌, ◌<◌, true, false, List, Result, Err, inl, inr, length, sym, ◌∙◌, arith}
use Rattle.std.specs.List.{list_all}
use Rattle.std.proofs.lemmas.Bool.{cases_eq}
use Rattle.std.proofs.lemmas.List.Sums.{AllPass-from_list_all, list_all-from_AllPass}
use Rattle.hex.specs.declared.error.FromHexError.{FromHexError}
use Rattle.hex.specs.declared.error.FromHexError.TheVariants.{OddLength, OutOfMemory}
use Rattle.hex.specs.Hex.{is_hex_digit}
use Rattle.hex.proofs.HexLemmas.{decode_of-digits, decode_of-ok}
use Rattle.bt_replay.specs.Field.{IsHex}

odd_is_no_memory : {A : Type 0} (r : Result A FromHexError) → r ≡ Err OddLength → r ≡ Err OutOfMemory → ⊥
odd_is_no_memory r odd is = cc (sym odd ∙ is)

-- an odd length is found before memory is asked for
pub even_length : {A : Type 0} (r : Result A FromHexError) (n : ℕ) → (n % 2 ≡ 1 → r ≡ Err OddLength)
    → r ≡ Err OutOfMemory → n % 2 ≡ 0
even_length r n odd is = elim (cases_eq (n % 2) 1) [
  | inl one ↦ absurd (odd_is_no_memory r (odd one) is)
  | inr other ↦ omega arith
]

true_is_false : true ≡ false → ⊥
true_is_false e = cc

pub no_hex : (field bytes : List ℕ) → list_all is_hex_digit field ≡ false → ¬ IsHex field bytes
no_hex field bytes none h =
    true_is_false (sym (list_all-from_AllPass is_hex_digit field (decode_of-ok field bytes h.spelled).1) ∙ none)

pub some_hex : (field : List ℕ) → 0 < length field → length field % 2 ≡ 0 → list_all is_hex_digit field ≡ true
    → (bytes : List ℕ) × IsHex field bytes
some_hex field some even all =
    let found = decode_of-digits field even (AllPass-from_list_all is_hex_digit field all) in
    (found.0, record { some = some; spelled = found.1 })
