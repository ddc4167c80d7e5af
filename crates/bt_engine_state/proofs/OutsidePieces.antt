-- The next piece of a set that is not in another, where bytes without one are passed at once.
use Rattle.std.proofs.Common.{◌≡◌, ℕ, zero, suc, ◌+◌, ◌-◌, ◌*◌, ◌/◌, ◌%◌, ◌<◌, ◌≤◌, inl, inr, Bool, true, false, not, ◌&&◌, List, [], ◌∷◌, length, take, get_or, refl, sym, ap, ap₂, ◌∙◌, arith}
use Rattle.std.specs.Int.{div_ceil, bit_at}
use Rattle.std.specs.Int.Bits.{bit_and}
use Rattle.std.proofs.lemmas.Nat.Bits.{bit_at_and, bit_at-lt}
use Rattle.std.proofs.lemmas.Bool.{cases_lt, cases_eq, eqb-true, eq-eqb, ne_eqb}
use Rattle.std.proofs.lemmas.List.{get_or-take}
use Rattle.bt_book.specs.BitSet.{IsNext, HasNoneFrom}
use Rattle.bt_machine.specs.WireEvents.{bits_in}
use Rattle.bt_engine_state.specs.PieceSets.{without}
use Rattle.bt_engine_state.specs.ComparisonSteps.{AddsNothing}
use Rattle.bt_engine_state.specs.PieceSetSteps.{HasNoneTo, IsWithinAt}
use Rattle.bt_engine_state.proofs.Bits.{set_length}
use Rattle.bt_engine_state.proofs.NextPieces.{none_past, bit_is}

pub length_without : (set others : List Bool) → length (without set others) ≡ length set
length_without [] others = refl
length_without (is ∷ set) [] = refl
length_without (is ∷ set) (other ∷ others) = ap (λ n. suc n) (length_without set others)

pub bit_without : (set others : List Bool) (q : ℕ) → get_or (without set others) q false ≡ (get_or set q false && not (get_or others q false))
bit_without [] others q = refl
bit_without (true ∷ set) [] zero = refl
bit_without (false ∷ set) [] zero = refl
bit_without (is ∷ set) [] (suc q) = by (get_or set q false)
  where
    by : (b : Bool) → b ≡ (b && not false)
    by true = refl
    by false = refl
bit_without (is ∷ set) (other ∷ others) zero = refl
bit_without (is ∷ set) (other ∷ others) (suc q) = bit_without set others q

pub not_in : (a b : Bool) → a ≡ false → (a && not b) ≡ false
not_in a b none = ap (λ t. t && not b) none

pub in_other : (a b : Bool) → b ≡ true → (a && not b) ≡ false
in_other true b both = ap (λ t. not t) both
in_other false b both = refl

module _ (bytes : List ℕ) (pieces : ℕ) (size : length bytes ≡ div_ceil pieces 8) {set : List Bool} (is : take pieces (bits_in bytes) ≡ set) (others : List Bool) where
  -- where the bit of a piece is set, the other set has the piece
  pub covered : (q : ℕ) → (q < pieces → bit_at (get_or bytes (q / 8) 0) (7 - q % 8) ≡ 1 → get_or others q false ≡ true)
      → get_or (without set others) q false ≡ false
  covered q of = bit_without set others q ∙ (elim (cases_lt q pieces) [
    | inl lt ↦ (elim (cases_eq (bit_at (get_or bytes (q / 8) 0) (7 - q % 8)) 1) [
      | inl one ↦ in_other (get_or set q false) (get_or others q false) (of lt one)
      | inr apart ↦ not_in (get_or set q false) (get_or others q false) (bit_is bytes pieces size is q lt ∙ ne_eqb _ 1 apart)
    ])
    | inr past ↦ not_in (get_or set q false) (get_or others q false) (none_past set q (omega (arith, ap length is, set_length bytes pieces size)))
  ])

module _ (bytes : List ℕ) (pieces : ℕ) (size : length bytes ≡ div_ceil pieces 8) {set : List Bool} (is : take pieces (bits_in bytes) ≡ set) (others : List Bool)
    (from piece : ℕ) (none : HasNoneTo (without set others) from piece) where
  -- each bit of the byte is one of the other's
  pub past_eight : (eight : ℕ) → ((j : ℕ) → j < 8 → bit_at eight (7 - j) ≡ 1 → get_or others (8 * (piece / 8) + j) false ≡ true)
      → bit_and (get_or bytes (piece / 8) 0) eight ≡ get_or bytes (piece / 8) 0 → HasNoneTo (without set others) from (8 * (piece / 8 + 1))
  past_eight eight of within q low high = elim (cases_lt q piece) [
    | inl lt ↦ none q low lt
    | inr le ↦ (
        let byte = get_or bytes (piece / 8) 0 in
        let same : q / 8 ≡ piece / 8 = omega arith in
        let place : 8 * (piece / 8) + q % 8 ≡ q = omega arith in
        covered bytes pieces size is others q (λ lt one.
        let own : bit_at byte (7 - q % 8) ≡ 1 = ap (λ n. bit_at (get_or bytes n 0) (7 - q % 8)) (sym same) ∙ one in
        let both = sym (bit_at_and byte eight (7 - q % 8)) ∙ ap (λ n. bit_at n (7 - q % 8)) within in
        let there : bit_at eight (7 - q % 8) ≡ 1 = omega (arith, both, own, bit_at-lt eight (7 - q % 8)) in
        ap (λ n. get_or others n false) (sym place) ∙ of (q % 8) (omega arith) there)
        )
  ]

  -- the piece is not in the set, or in the other
  pub past_one : (get_or set piece false && not (get_or others piece false)) ≡ false → HasNoneTo (without set others) from (piece + 1)
  past_one not_so q low high = elim (cases_lt q piece) [
    | inl lt ↦ none q low lt
    | inr le ↦ (
        let same : q ≡ piece = omega arith in
        ap (λ n. get_or (without set others) n false) same ∙ bit_without set others piece ∙ not_so
        )
  ]

  pub own_bit : piece < pieces → get_or set piece false ≡ get_or (bits_in bytes) piece false
  own_bit inside = ap (λ bits. get_or bits piece false) (sym is) ∙ get_or-take pieces (bits_in bytes) piece false inside

  long : length (without set others) ≡ pieces
  long = length_without set others ∙ ap length (sym is) ∙ set_length bytes pieces size

  pub is_next : from ≤ piece → piece < pieces → get_or set piece false ≡ true → get_or others piece false ≡ false → IsNext (without set others) from piece
  is_next after inside own apart = record {
    inside = omega (arith, long, inside);
    after = after;
    member = bit_without set others piece ∙ ap (λ b. b && not (get_or others piece false)) own ∙ ap not apart;
    least = none;
  }

  pub none_left : pieces ≤ piece → HasNoneFrom (without set others) from
  none_left past j low = elim (cases_lt j piece) [
    | inl lt ↦ none j low lt
    | inr le ↦ none_past (without set others) j (omega (arith, long, past, le))
  ]

-- ---- whole bytes of two sets, side by side
needs_other : (a b : Bool) → a ≡ true → (a && not b) ≡ false → b ≡ true
needs_other a true own none = refl
needs_other true false own none = sym none
needs_other false false own none = own

module _ (own other : List ℕ) (pieces more : ℕ) (size : length own ≡ div_ceil pieces 8) (room : length other ≡ div_ceil more 8)
    {set others : List Bool} (is : take pieces (bits_in own) ≡ set) (are : take more (bits_in other) ≡ others)
    (place count : ℕ) (whole : 8 * (place + count) ≤ pieces) (too : 8 * (place + count) ≤ more) where
  none_added : AddsNothing place count own other → HasNoneTo (without set others) (8 * place) (8 * (place + count))
  none_added nothing q low high = covered own pieces size is others q (λ lt one.
      bit_is other more room are q (omega arith)
      ∙ eq-eqb _ 1 (nothing (q / 8) (7 - q % 8) (omega arith) (omega arith) (omega arith) one))

  pub within_from_bytes : AddsNothing place count own other → IsWithinAt place count set others
  within_from_bytes nothing = record {
    own = omega (arith, whole, ap length is, set_length own pieces size);
    other = omega (arith, too, ap length are, set_length other more room);
    none = none_added nothing;
  }

  pub bytes_from_within : IsWithinAt place count set others → AddsNothing place count own other
  bytes_from_within within i j low high small one =
      let q : ℕ = 8 * i + (7 - j) in
      let at : q / 8 ≡ i = omega arith in
      let turn : 7 - q % 8 ≡ j = omega arith in
      let bit_in : (bytes : List ℕ) → bit_at (get_or bytes (q / 8) 0) (7 - q % 8) ≡ bit_at (get_or bytes i 0) j =
      λ bytes. ap₂ (λ m n. bit_at (get_or bytes m 0) n) at turn in
      let none = sym (bit_without set others q) ∙ within.none q (omega arith) (omega arith) in
      let mine : get_or set q false ≡ true = bit_is own pieces size is q (omega arith) ∙ eq-eqb _ 1 (bit_in own ∙ one) in
      let theirs = sym (bit_is other more room are q (omega arith)) ∙ needs_other _ _ mine none in
      sym (bit_in other) ∙ eqb-true _ 1 theirs
