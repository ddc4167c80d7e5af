-- The next piece of a set, where bytes without a bit are passed at once.
use Rattle.std.proofs.Common.{◌≡◌, ℕ, ◌+◌, ◌-◌, ◌*◌, ◌/◌, ◌%◌, ◌^◌, ◌<◌, ◌≤◌, inl, inr, Bool, false, List, [], ◌∷◌, zero, suc, length, take, get_or, nat_eq, refl, sym, ap, ap₂, ◌∙◌, arith}
use Rattle.std.specs.Int.{div_ceil, bit_at}
use Rattle.std.proofs.Math.Nat.{zero-div}
use Rattle.std.proofs.lemmas.Grind.{div_ceil_times}
use Rattle.std.proofs.lemmas.Nat.Bits.{bit_at-lt}
use Rattle.std.proofs.lemmas.Bool.{cases_lt, cases_eq, eqb-false}
use Rattle.std.proofs.lemmas.List.{get_or-take}
use Rattle.bt_machine.specs.WireEvents.{bits_in}
use Rattle.bt_engine_state.specs.ComparisonSteps.{HasNoBit}
use Rattle.bt_engine_state.specs.PieceSetSteps.{HasNoneTo, IsEmptyAt}
use Rattle.bt_engine_state.proofs.Bits.{bit_of, place_bit, set_length}

pub none_past : (bits : List Bool) (q : ℕ) → length bits ≤ q → get_or bits q false ≡ false
none_past [] q past = refl
none_past (t ∷ bits) zero past = absurd (omega (arith, past))
none_past (t ∷ bits) (suc q) past = none_past bits q (omega (arith, past))

module _ (bytes : List ℕ) (pieces : ℕ) (size : length bytes ≡ div_ceil pieces 8) {set : List Bool} (is : take pieces (bits_in bytes) ≡ set) where
  pub bit_is : (q : ℕ) → q < pieces → get_or set q false ≡ bit_of (get_or bytes (q / 8) 0) (q % 8)
  bit_is q lt =
      ap (λ bits. get_or bits q false) (sym is) ∙ get_or-take pieces (bits_in bytes) q false lt
      ∙ sym (place_bit bytes q (omega (arith, size, div_ceil_times pieces 8)))

  empty_byte : (q : ℕ) → get_or bytes (q / 8) 0 ≡ 0 → get_or set q false ≡ false
  empty_byte q empty = elim (cases_lt q pieces) [
    | inl lt ↦
        bit_is q lt ∙ ap (λ byte. bit_of byte (q % 8)) empty ∙ ap (λ n. nat_eq (n % 2) 1) (zero-div (2 ^ (7 - q % 8)))
    | inr past ↦ none_past set q (omega (arith, ap length is, set_length bytes pieces size))
  ]

  module _ (from piece : ℕ) (none : HasNoneTo set from piece) where
    pub past_byte : get_or bytes (piece / 8) 0 ≡ 0 → HasNoneTo set from ((piece / 8 + 1) * 8)
    past_byte empty q low high = elim (cases_lt q piece) [
      | inl lt ↦ none q low lt
      | inr le ↦ (let same : q / 8 ≡ piece / 8 = omega arith in empty_byte q (ap (λ n. get_or bytes n 0) same ∙ empty))
    ]

    pub past_bit : piece < pieces → get_or (bits_in bytes) piece false ≡ false → HasNoneTo set from (piece + 1)
    past_bit inside not q low high = elim (cases_lt q piece) [
      | inl lt ↦ none q low lt
      | inr le ↦ (
          let same : q ≡ piece = omega arith in
          ap (λ n. get_or set n false) same ∙ ap (λ bits. get_or bits piece false) (sym is)
          ∙ get_or-take pieces (bits_in bytes) piece false inside ∙ not
          )
    ]

  module _ (place count : ℕ) (whole : 8 * (place + count) ≤ pieces) where
    none_there : HasNoBit place count bytes → HasNoneTo set (8 * place) (8 * (place + count))
    none_there none q low high =
        bit_is q (omega arith) ∙ ap (λ n. nat_eq n 1) (none (q / 8) (7 - q % 8) (omega arith) (omega arith) (omega arith))

    pub empty_from_bytes : HasNoBit place count bytes → IsEmptyAt place count set
    empty_from_bytes none = record { own = omega (arith, whole, ap length is, set_length bytes pieces size); none = none_there none }

    pub bytes_from_empty : IsEmptyAt place count set → HasNoBit place count bytes
    bytes_from_empty empty i j low high small =
        let q : ℕ = 8 * i + (7 - j) in
        let at : q / 8 ≡ i = omega arith in
        let turn : 7 - q % 8 ≡ j = omega arith in
        let byte : bit_at (get_or bytes (q / 8) 0) (7 - q % 8) ≡ bit_at (get_or bytes i 0) j = ap₂ (λ m n. bit_at (get_or bytes m 0) n) at turn in
        let none = sym (bit_is q (omega arith)) ∙ empty.none q (omega arith) (omega arith) in
        elim (cases_eq (bit_at (get_or bytes i 0) j) 1) [
          | inl one ↦ absurd (eqb-false _ 1 none (byte ∙ one))
          | inr apart ↦ omega (arith, apart, bit_at-lt (get_or bytes i 0) j)
        ]
