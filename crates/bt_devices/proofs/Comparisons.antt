-- What the comparison of two vectors of bytes says.
use Rattle.std.proofs.Common.{◌≡◌, ℕ, zero, suc, ◌+◌, ◌-◌, ◌%◌, ◌^◌, ◌<◌, ◌≤◌, Bool, true, false, not, eqb, List, [], ◌∷◌, map, cond, w8, length, get_or, refl, sym, ap, ap₂, ◌∙◌, arith}
use Rattle.std.proofs.lemmas.Simd.{mask_l-mod, tops_compared, length-chunk, get_or-chunk, get_or-zip2, length-zip2}
use Rattle.std.proofs.lemmas.Bool.{not-false}
use Rattle.std.proofs.lemmas.Bool.Decides.{Decides-eqb}
use lib.Lanes.{chunk, zip2, mask_l, top}
use Rattle.bt_devices.specs.CacheSteps.{AreSameFrom}

-- no bit is set
unset : (bits : List Bool) → mask_l bits ≡ 0 → (k : ℕ) → get_or bits k false ≡ false
unset [] none k = refl
unset (true ∷ bits) none k = absurd (omega arith)
unset (false ∷ bits) none zero = refl
unset (false ∷ bits) none (suc k) = unset bits (omega arith) k

empty : (bits : List Bool) → ((k : ℕ) → k < length bits → get_or bits k false ≡ false) → mask_l bits ≡ 0
empty [] none = refl
empty (true ∷ bits) none =
    let set : true ≡ false = none 0 (omega arith) in
    cc
empty (false ∷ bits) none =
    let rest = empty bits (λ k below. none (suc k) (omega arith)) in
    omega arith

abbrev pub differ : ℕ → ℕ → Bool
differ a b = not (eqb a b)

module _ (at : ℕ) (one other : List ℕ) (first : at + 64 ≤ length one) (second : at + 64 ≤ length other) where
  abbrev bits : List Bool
  bits = zip2 differ (chunk at 64 one) (chunk at 64 other)

  long : length bits ≡ 64
  long = length-zip2 differ (chunk at 64 one) (chunk at 64 other) (length-chunk at 64 one first ∙ sym (length-chunk at 64 other second)) ∙ length-chunk at 64 one first

  mask : mask_l bits % 2 ^ 64 ≡ mask_l bits
  mask = mask_l-mod bits 64 (omega (arith, long))

  bit : (k : ℕ) → k < 64 → get_or bits k false ≡ differ (get_or one (at + k) 0) (get_or other (at + k) 0)
  bit k below =
      let left = length-chunk at 64 one first in
      let right = length-chunk at 64 other second in
      get_or-zip2 differ (chunk at 64 one) (chunk at 64 other) k 0 0 false (omega (arith, left)) (omega (arith, right))
      ∙ ap₂ differ (get_or-chunk at 64 one k 0 below) (get_or-chunk at 64 other k 0 below)

  -- what a comparison of vectors gives: a lane is all ones where its bytes differ
  abbrev compared : List ℕ
  compared = zip2 (λ a b. cond (differ a b) 255 0) (chunk at 64 one) (chunk at 64 other)

  abbrev marks : ℕ
  marks = mask_l (map (top 7) compared) % 2 ^ 64

  marked : marks ≡ mask_l bits
  marked = ap (λ lanes. mask_l lanes % 2 ^ 64) (tops_compared w8 differ (chunk at 64 one) (chunk at 64 other)) ∙ mask

  pub same_from_mask : marks ≡ 0 → AreSameFrom at 64 one other
  same_from_mask none i from to =
      let back : at + (i - at) ≡ i = omega arith in
      let clear = unset bits (sym marked ∙ none) (i - at) in
      let equal = not-false _ (sym (bit (i - at) (omega arith)) ∙ clear) in
      let same = (Decides-eqb _ _).0 equal in
      ap (λ j. get_or one j 0) (sym back) ∙ same ∙ ap (λ j. get_or other j 0) back

  pub mask_from_same : AreSameFrom at 64 one other → marks ≡ 0
  mask_from_same same =
      marked ∙ empty bits (λ k below.
      let inside : k < 64 = omega (arith, long) in
      bit k inside ∙ ap not ((Decides-eqb _ _).1 (same (at + k) (omega arith) (omega arith))))
