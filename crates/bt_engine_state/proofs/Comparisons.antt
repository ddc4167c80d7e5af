-- What a comparison of two vectors of bytes says.
use Rattle.std.proofs.Common.{◌≡◌, ℕ, zero, suc, ◌+◌, ◌-◌, ◌/◌, ◌%◌, ◌^◌, ◌<◌, ◌≤◌, inl, inr, Bool, true, false, not, eqb, List, [], ◌∷◌, map, cond, w8, length, get_or, replicate, refl, sym, ap, ap₂, ◌∙◌, arith}
use Rattle.std.specs.Int.{bit_at}
use Rattle.std.specs.Int.Bits.{bit_and}
use Rattle.std.proofs.Math.Nat.{pow-suc}
use Rattle.std.proofs.lemmas.Nat.{and_le_l}
use Rattle.std.proofs.lemmas.Nat.Bits.{bit_at_and, bit_at-lt, bit_at-suc, bit_at_lowest, bit_at-zero}
use Rattle.std.proofs.lemmas.Simd.{mask_l-mod, length-replicate, get_or-replicate, tops_compared, length-chunk, get_or-chunk, get_or-zip2, length-zip2}
use Rattle.std.proofs.lemmas.Bool.{cases_eq, eqb-true, eq-eqb, not-false}
use lib.Lanes.{chunk, zip2, mask_l, top}
use Rattle.bt_engine_state.specs.ComparisonSteps.{AddsNothing, HasNoBit}

-- no bit is set
unset : (bits : List Bool) → mask_l bits ≡ 0 → (k : ℕ) → get_or bits k false ≡ false
unset [] none k = refl
unset (true ∷ bits) none k = absurd (omega arith)
unset (false ∷ bits) none zero = refl
unset (false ∷ bits) none (suc k) = unset bits (omega arith) k

empty : (bits : List Bool) → ((k : ℕ) → k < length bits → get_or bits k false ≡ false) → mask_l bits ≡ 0
empty [] none = refl
empty (true ∷ bits) none =
    let set : true ≡ false = none 0 (omega arith) in
    cc
empty (false ∷ bits) none =
    let rest = empty bits (λ k below. none (suc k) (omega arith)) in
    omega arith

abbrev differ : ℕ → ℕ → Bool
differ a b = not (eqb a b)

-- what a comparison of vectors gives: a lane is all ones where its bytes differ
abbrev marks : List ℕ → List ℕ → ℕ
marks one other = mask_l (map (top 7) (zip2 (λ a b. cond (differ a b) 255 0) one other)) % 2 ^ 64

module _ (one other : List ℕ) (first : length one ≡ 64) (second : length other ≡ 64) where
  abbrev bits : List Bool
  bits = zip2 differ one other

  long : length bits ≡ 64
  long = length-zip2 differ one other (first ∙ sym second) ∙ first

  marked : marks one other ≡ mask_l bits
  marked = ap (λ lanes. mask_l lanes % 2 ^ 64) (tops_compared w8 differ one other) ∙ mask_l-mod bits 64 (omega (arith, long))

  bit : (k : ℕ) → k < 64 → get_or bits k false ≡ differ (get_or one k 0) (get_or other k 0)
  bit k below = get_or-zip2 differ one other k 0 0 false (omega (arith, first)) (omega (arith, second))

  same_from_marks : marks one other ≡ 0 → (k : ℕ) → k < 64 → get_or one k 0 ≡ get_or other k 0
  same_from_marks none k below = eqb-true _ _ (not-false _ (sym (bit k below) ∙ unset bits (sym marked ∙ none) k))

  marks_from_same : ((k : ℕ) → k < 64 → get_or one k 0 ≡ get_or other k 0) → marks one other ≡ 0
  marks_from_same same =
      marked ∙ empty bits (λ k below.
      let inside : k < 64 = omega (arith, long, below) in
      bit k inside ∙ ap not (eq-eqb _ _ (same k inside)))

same_bits : (k a b : ℕ) → a < 2 ^ k → b < 2 ^ k → ((j : ℕ) → j < k → bit_at a j ≡ bit_at b j) → a ≡ b
same_bits zero a b small low same = omega arith
same_bits (suc k) a b small low same =
    let halves = same_bits k (a / 2) (b / 2) (omega (arith, pow-suc 2 k)) (omega (arith, pow-suc 2 k))
    (λ j lt. sym (bit_at-suc a j) ∙ same (suc j) (omega arith) ∙ bit_at-suc b j) in
    omega (arith, halves, bit_at_lowest a, bit_at_lowest b, same 0 (omega arith))

module _ (at : ℕ) (own other : List ℕ) (first : at + 64 ≤ length own) (second : at + 64 ≤ length other) where
  abbrev part : List ℕ
  part = chunk at 64 own

  abbrev both : List ℕ
  both = zip2 bit_and part (chunk at 64 other)

  part_long : length part ≡ 64
  part_long = length-chunk at 64 own first

  other_long : length (chunk at 64 other) ≡ 64
  other_long = length-chunk at 64 other second

  both_long : length both ≡ 64
  both_long = length-zip2 bit_and part (chunk at 64 other) (part_long ∙ sym other_long) ∙ part_long

  lane : (k : ℕ) → k < 64 → get_or both k 0 ≡ bit_and (get_or own (at + k) 0) (get_or other (at + k) 0)
  lane k below =
      get_or-zip2 bit_and part (chunk at 64 other) k 0 0 0 (omega (arith, part_long)) (omega (arith, other_long))
      ∙ ap₂ bit_and (get_or-chunk at 64 own k 0 below) (get_or-chunk at 64 other k 0 below)

  pub nothing_from_marks : marks both part ≡ 0 → AddsNothing at 64 own other
  nothing_from_marks none i j from to small one =
      let a = get_or own i 0 in
      let b = get_or other i 0 in
      let back : at + (i - at) ≡ i = omega arith in
      let below : i - at < 64 = omega arith in
      let kept : bit_and a b ≡ a =
      ap (λ n. bit_and (get_or own n 0) (get_or other n 0)) (sym back) ∙ sym (lane (i - at) below)
      ∙ same_from_marks both part both_long part_long none (i - at) below ∙ get_or-chunk at 64 own (i - at) 0 below
      ∙ ap (λ n. get_or own n 0) back in
      omega (arith, one, bit_at-lt b j, sym (bit_at_and a b j) ∙ ap (λ n. bit_at n j) kept)

  pub marks_from_nothing : ((i : ℕ) → get_or own i 0 < 256) → AddsNothing at 64 own other → marks both part ≡ 0
  marks_from_nothing fits nothing = marks_from_same both part both_long part_long (λ k below.
      let a = get_or own (at + k) 0 in
      let b = get_or other (at + k) 0 in
      let kept : bit_and a b ≡ a = same_bits 8 (bit_and a b) a (omega (arith, and_le_l a b, fits (at + k))) (fits (at + k))
      (λ j small. bit_at_and a b j ∙ (elim (cases_eq (bit_at a j) 1) [
        | inl one ↦ omega (arith, one, nothing (at + k) j (omega arith) (omega arith) small one)
        | inr apart ↦ omega (arith, apart, bit_at-lt a j)
      ])) in
      lane k below ∙ kept ∙ sym (get_or-chunk at 64 own k 0 below))

module _ (at : ℕ) (bytes : List ℕ) (enough : at + 64 ≤ length bytes) where
  abbrev those : List ℕ
  those = chunk at 64 bytes

  those_long : length those ≡ 64
  those_long = length-chunk at 64 bytes enough

  abbrev zeros : List ℕ
  zeros = replicate 64 0

  zeros_long : length zeros ≡ 64
  zeros_long = length-replicate {A = ℕ} 64 0

  pub no_bit_from_marks : marks those zeros ≡ 0 → HasNoBit at 64 bytes
  no_bit_from_marks none i j from to small =
      let back : at + (i - at) ≡ i = omega arith in
      let below : i - at < 64 = omega arith in
      let empty : get_or bytes i 0 ≡ 0 =
      ap (λ n. get_or bytes n 0) (sym back) ∙ sym (get_or-chunk at 64 bytes (i - at) 0 below)
      ∙ same_from_marks those zeros those_long zeros_long none (i - at) below
      ∙ get_or-replicate 64 (i - at) 0 0 below in
      ap (λ n. bit_at n j) empty ∙ bit_at-zero j

  pub marks_from_no_bit : ((i : ℕ) → get_or bytes i 0 < 256) → HasNoBit at 64 bytes → marks those zeros ≡ 0
  marks_from_no_bit fits none = marks_from_same those zeros those_long zeros_long (λ k below.
      get_or-chunk at 64 bytes k 0 below
      ∙ same_bits 8 (get_or bytes (at + k) 0) 0 (fits (at + k)) (omega arith)
      (λ j small. none (at + k) j (omega arith) (omega arith) small ∙ sym (bit_at-zero j))
      ∙ sym (get_or-replicate 64 k 0 0 below))
