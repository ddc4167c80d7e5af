-- The bits of a bitfield, one by one.
use Rattle.std.proofs.Common.{[], zero, suc, ◌++◌, ◌≡◌, ◌≢◌, ℕ, ◌+◌, ◌-◌, ◌*◌, ◌/◌, ◌%◌, ◌^◌, ◌<◌, ◌≤◌, inl, inr, Bool, true, false, List, ◌∷◌, length, take, get_or, set, replicate, nat_eq, bit_or, w8, refl, sym, ap, ◌∙◌, arith, get_or-set_same, get_or-set_other}
use Rattle.std.specs.Int.{div_ceil}
use Rattle.std.proofs.lemmas.Grind.{div_ceil_times}
use Rattle.std.proofs.lemmas.Bool.{cases_eq, eq-eqb}
use Rattle.std.proofs.lemmas.Nat.Bits.{bit_at_set_same, bit_at_set_other}
use Rattle.std.proofs.lemmas.List.{length-append, length-set, length-take-le, take-replicate, replicate-append-replicate, ext_get_or}
use Rattle.std.proofs.lemmas.List.Concat.{flat_map-cons, get_or-flat_map}
use Rattle.std.proofs.lemmas.List.FromFn.{length-map-range_with_len, get_or-map-range_with_len}
use Rattle.bt_machine.specs.WireEvents.{bits_of, bits_in}

-- one bit of a byte
abbrev pub bit_of : ℕ → ℕ → Bool
bit_of byte j = nat_eq (byte / 2 ^ (7 - j) % 2) 1

length_byte : (byte : ℕ) → length (bits_of byte) ≡ 8
length_byte byte = length-map-range_with_len (bit_of byte) 0 8

pub length_bits : (bytes : List ℕ) → length (bits_in bytes) ≡ 8 * length bytes
length_bits [] = refl
length_bits (b ∷ bs) =
    omega (arith, ap length (flat_map-cons bits_of b bs), length-append (bits_of b) (bits_in bs), length_byte b, length_bits bs)

bit_at_place : (bytes : List ℕ) (q j : ℕ) → q < length bytes → j < 8
    → get_or (bits_in bytes) (8 * q + j) false ≡ bit_of (get_or bytes q 0) j
bit_at_place bytes q j lt small =
    let before : 8 * q + j ≡ length (bits_in (take q bytes)) + j = omega (arith, length_bits (take q bytes), length-take-le q bytes (omega arith)) in
    ap (λ n. get_or (bits_in bytes) n false) before
    ∙ get_or-flat_map bits_of bytes q j 0 false lt (omega (arith, length_byte (get_or bytes q 0)))
    ∙ get_or-map-range_with_len (bit_of (get_or bytes q 0)) 0 8 j j false small (omega arith)

pub place_bit : (bytes : List ℕ) (n : ℕ) → n < 8 * length bytes
    → bit_of (get_or bytes (n / 8) 0) (n % 8) ≡ get_or (bits_in bytes) n false
place_bit bytes n lt =
    let same : 8 * (n / 8) + n % 8 ≡ n = omega arith in
    sym (bit_at_place bytes (n / 8) (n % 8) (omega arith) (omega arith)) ∙ ap (λ k. get_or (bits_in bytes) k false) same

-- ---- a bit is set
-- a byte is replaced by one that differs at one bit alone, which is set
module _ (bytes : List ℕ) (place byte : ℕ) (inside : place < 8 * length bytes) (own : bit_of byte (place % 8) ≡ true)
    (others : (j : ℕ) → j < 8 → j ≢ place % 8 → bit_of byte j ≡ bit_of (get_or bytes (place / 8) 0) j) where
  low : place / 8 < length bytes
  low = omega arith

  bit_then : (n : ℕ) → n < 8 * length bytes
      → bit_of (get_or (set bytes (place / 8) byte) (n / 8) 0) (n % 8) ≡ get_or (set (bits_in bytes) place true) n false
  bit_then n lt = elim (cases_eq n place) [
    | inl e ↦
        let size = length_bits bytes in
        rw (e, get_or-set_same bytes (place / 8) byte 0 low) (own ∙ sym (get_or-set_same (bits_in bytes) place true false (omega arith)))
    | inr apart ↦
        let kept = get_or-set_other (bits_in bytes) place n true false apart in
        elim (cases_eq (n / 8) (place / 8)) [
          | inl same ↦
              let bit : n % 8 ≢ place % 8 = λ h. apart (omega arith) in
              let was = others (n % 8) (omega arith) bit in
              let at : get_or (set bytes (place / 8) byte) (n / 8) 0 ≡ byte =
              ap (λ k. get_or (set bytes (place / 8) byte) k 0) same ∙ get_or-set_same bytes (place / 8) byte 0 low in
              ap (λ b. bit_of b (n % 8)) at ∙ was ∙ ap (λ k. bit_of (get_or bytes k 0) (n % 8)) (sym same) ∙ place_bit bytes n lt ∙ sym kept
          | inr other ↦
              ap (λ b. bit_of b (n % 8)) (get_or-set_other bytes (place / 8) (n / 8) byte 0 other) ∙ place_bit bytes n lt ∙ sym kept
        ]
  ]

  bits_then : bits_in (set bytes (place / 8) byte) ≡ set (bits_in bytes) place true
  bits_then =
      let size = length-set bytes (place / 8) byte in
      let long : length (bits_in (set bytes (place / 8) byte)) ≡ 8 * length bytes = omega (arith, length_bits (set bytes (place / 8) byte), size) in
      ext_get_or false (bits_in (set bytes (place / 8) byte)) (set (bits_in bytes) place true)
      (omega (arith, long, length-set (bits_in bytes) place true, length_bits bytes))
      (λ n lt. sym (place_bit (set bytes (place / 8) byte) n (omega arith)) ∙ bit_then n (omega arith))

pub bit_set : (bytes : List ℕ) (place : ℕ) → place < 8 * length bytes
    → bits_in (set bytes (place / 8) (bit_or (get_or bytes (place / 8) 0) (1 * 2 ^ (7 - place % 8) % 256))) ≡ set (bits_in bytes) place true
bit_set bytes place inside =
    let byte = get_or bytes (place / 8) 0 in
    bits_then bytes place (bit_or byte (1 * 2 ^ (7 - place % 8) % 256)) inside
    (eq-eqb _ 1 (bit_at_set_same w8 byte (7 - place % 8) (omega arith)))
    (λ j lt ne. ap (λ n. nat_eq n 1) (bit_at_set_other w8 byte (7 - place % 8) (omega arith) (7 - j) (λ h. ne (omega arith))))

-- ---- no bit
pub no_bit : (m : ℕ) → bits_in (replicate m 0) ≡ replicate (8 * m) false
no_bit zero = refl
no_bit (suc m) =
    let more : 8 + 8 * m ≡ 8 * suc m = omega arith in
    ap (λ bits. bits_of 0 ++ bits) (no_bit m) ∙ replicate-append-replicate 8 (8 * m) false ∙ ap (λ n. replicate n false) more

pub no_bits : (m count : ℕ) → count ≤ 8 * m → take count (bits_in (replicate m 0)) ≡ replicate count false
no_bits m count enough = ap (take count) (no_bit m) ∙ take-replicate count (8 * m) false enough

-- ---- as many bits as there are pieces
pub set_length : (bytes : List ℕ) (count : ℕ) → length bytes ≡ div_ceil count 8 → length (take count (bits_in bytes)) ≡ count
set_length bytes count size =
    length-take-le count (bits_in bytes) (omega (arith, size, div_ceil_times count 8, length_bits bytes))
