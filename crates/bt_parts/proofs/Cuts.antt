-- Where a file is cut.
use Rattle.std.proofs.Common.{◌≡◌, ℕ, ◌+◌, ◌-◌, ◌*◌, ◌/◌, ◌%◌, ◌<◌, ◌≤◌, ◌⊎◌, zero, suc, min, inl, inr, arith, refl, ap, subst}
use Rattle.std.specs.Int.{div_ceil}
use Rattle.std.proofs.Math.Nat.{div-le_of_le-mul, div-mul-le_self, le-div_iff_mul-le, mod-lt, mul_comm, mul-div_cancel, mul-le-mul_right}
use Rattle.std.proofs.lemmas.Bool.{cases_lt}
use Rattle.std.proofs.lemmas.Nat.{div-add-mod'}
use Rattle.bt_tree.specs.Limits.{full_block_length}
use Rattle.bt_parts.specs.Division.{IsFirstIn, cut_at, edge_of}
use Rattle.bt_parts.specs.Law.{SharesAreWhole}
use Rattle.bt_parts.specs.declared.cut.Cut.{Cut}

min_one : (r : ℕ) → ((r ≡ 0) × (min 1 r ≡ 0)) ⊎ ((0 < r) × (min 1 r ≡ 1))
min_one zero = inl (refl, refl)
min_one (suc r) = inr (omega arith, omega arith)

module _ (x y : ℕ) where
  -- y, as many times as `div_ceil` says, reaches x
  ceil_covers : 0 < y → x ≤ div_ceil x y * y
  ceil_covers pos =
      let whole = div-add-mod' x y in
      elim (min_one (x % y)) [
        | inl none ↦
            let same : div_ceil x y ≡ x / y = omega (arith, none.1) in
            let at = ap (λ n. n * y) same in omega (arith, whole, none.0, at)
        | inr some ↦ covers_more some.1
      ]
    where
      covers_more : min 1 (x % y) ≡ 1 → x ≤ div_ceil x y * y
      covers_more one =
          let more : div_ceil x y ≡ x / y + 1 = omega (arith, one) in
          let at = ap (λ n. n * y) more in
          let small : x % y < y = mod-lt x pos in
          let whole = div-add-mod' x y in
          let step : (x / y + 1) * y ≡ x / y * y + y = grind arith in
          omega (arith, whole, small, at, step)

  -- and no more than needed
  ceil_least : (k : ℕ) → 0 < y → x ≤ k * y → div_ceil x y ≤ k
  ceil_least k pos within =
      elim (min_one (x % y)) [
        | inl none ↦
            let low : x / y ≤ k = div-le_of_le-mul y (subst (λ n. x ≤ n) (mul_comm k y) within) in
            omega (arith, low, none.1)
        | inr some ↦
            let below : x / y < k = elim (cases_lt (x / y) k) [
              | inl lt ↦ lt
              | inr le ↦
                  let times : k * y ≤ x / y * y = mul-le-mul_right y le in
                  absurd (omega (arith, times, within, some.0, div-add-mod' x y))
            ] in
            omega (arith, below, some.1)
      ]

ceil_forward : (x z y : ℕ) → 0 < y → x ≤ z → div_ceil x y ≤ div_ceil z y
ceil_forward x z y pos le = ceil_least x y (div_ceil z y) pos (omega (arith, le, ceil_covers z y pos))

edge_forward : (total count i j : ℕ) → 0 < count → i ≤ j → edge_of total count i ≤ edge_of total count j
edge_forward total count i j pos le =
    let times : i * total ≤ j * total = mul-le-mul_right total le in
    let more : total * i ≤ total * j = omega (arith, times, mul_comm i total, mul_comm j total) in
    (le-div_iff_mul-le pos).1 (omega (arith, div-mul-le_self (total * i) count, more))

edge_first : (total count : ℕ) → 0 < count → edge_of total count 0 ≡ 0
edge_first total count pos = grind (arith, div-mul-le_self (total * 0) count)

edge_last : (total count : ℕ) → 0 < count → edge_of total count count ≡ total
edge_last total count pos = mul-div_cancel total pos

unit_bytes : (file : Cut) → 0 < file.unit * full_block_length
unit_bytes file = omega (arith, file.some)

cut_forward : (file : Cut) (x z : ℕ) → x ≤ z → cut_at file x ≤ cut_at file z
cut_forward file x z le =
    let units = ceil_forward (x - file.place) (z - file.place) (file.unit * full_block_length) (unit_bytes file) (omega (arith, le)) in
    let blocks = mul-le-mul_right file.unit units in
    omega (arith, blocks)

cut_begin : (file : Cut) (total count : ℕ) → 0 < count → cut_at file (edge_of total count 0) ≡ 0
cut_begin file total count pos =
    let behind : edge_of total count 0 - file.place ≡ 0 = omega (arith, edge_first total count pos) in
    let none : div_ceil (edge_of total count 0 - file.place) (file.unit * full_block_length) ≤ 0 =
    ceil_least (edge_of total count 0 - file.place) (file.unit * full_block_length) 0 (unit_bytes file) (omega (arith, behind)) in
    let blocks = mul-le-mul_right file.unit none in
    omega (arith, blocks)

cut_finish : (file : Cut) (total count : ℕ) → 0 < count → file.place + (file.blocks - 1) * full_block_length < total
    → cut_at file (edge_of total count count) ≡ file.blocks
cut_finish file total count pos inside =
    let edge = edge_last total count pos in
    let c = div_ceil (edge_of total count count - file.place) (file.unit * full_block_length) in
    let covers = ceil_covers (edge_of total count count - file.place) (file.unit * full_block_length) (unit_bytes file) in
    let times : c * (file.unit * full_block_length) ≡ c * file.unit * full_block_length = grind arith in
    omega (arith, edge, covers, times, inside)

-- ---- the part in which a file begins

module _ (total count : ℕ) (file : Cut) (pos : 0 < count) where
  told_below : (n : ℕ) → file.place < edge_of total count n → (index : ℕ) × (index < n) × IsFirstIn total count index file
  told_below zero past = absurd (omega (arith, past, edge_first total count pos))
  told_below (suc n) past = elim (cases_lt file.place (edge_of total count n)) [
    | inl lt ↦ (let earlier = told_below n lt in (earlier.0, omega (arith, earlier.1), earlier.2))
    | inr ge ↦ (
      n,
      omega arith,
      record { begun = ge; before = subst (λ m. file.place < edge_of total count m) (omega arith) past },
    )
  ]

  alone : (i j : ℕ) → IsFirstIn total count i file → IsFirstIn total count j file → i ≡ j
  alone i j here there = elim (cases_lt i j) [
    | inl lt ↦ absurd (omega (arith, edge_forward total count (i + 1) j pos (omega (arith, lt)), here.before, there.begun))
    | inr ge ↦ elim (cases_lt j i) [
      | inl lt ↦ absurd (omega (arith, edge_forward total count (j + 1) i pos (omega (arith, lt)), there.before, here.begun))
      | inr le ↦ omega (arith, ge, le)
    ]
  ]

pub shares_whole : SharesAreWhole
shares_whole file total count pos inside = record {
  begin = cut_begin file total count pos;
  finish = cut_finish file total count pos inside;
  forward = λ index. cut_forward file _ _ (edge_forward total count index (index + 1) pos (omega arith));
  told = told_below total count file pos count (omega (arith, inside, edge_last total count pos));
  alone = alone total count file pos;
}
