-- Lemmas on the nodes of pieces.
use Rattle.std.proofs.Common.{◌≡◌, ℕ, ◌/◌, ◌%◌, ◌+◌, ◌*◌, ◌^◌, ◌<◌, ◌≤◌, inl, inr, arith, ap, ◌∙◌}
use Rattle.std.proofs.Math.Nat.{mul-le-mul_right}
use Rattle.std.proofs.lemmas.Nat.{pow_pos, div-add-mod'}
use Rattle.std.proofs.lemmas.Bool.{cases_lt}
use Rattle.bt_tree.specs.Blocks.{block_count}
use Rattle.bt_tree.specs.RootBuilder.{BuilderState, first_block, node_end}
use Rattle.bt_tree.specs.TreeShape.{height_of, real_width, CoversBlock}
use Rattle.bt_tree.proofs.TreeShape.{real_limit}
use Rattle.bt_check.specs.Pieces.{piece_size}

-- a node of a layer that covers a block
pub covers : (n layer index : ℕ) → layer ≤ height_of n → index < real_width n layer → CoversBlock n layer index
covers n layer index inside real =
    let limit = real_limit n layer inside in
    record { inside = record { in_height = inside; in_width = omega (arith, limit, real) }; real = real }

pub piece_covers : (file_length layer index size : ℕ) (b : BuilderState) → b.file_length ≡ file_length → b.layer ≡ layer → b.index ≡ index
    → index * 2 ^ layer < block_count file_length → size ≡ piece_size file_length layer index → 16384 * first_block b + size ≡ node_end b
piece_covers file_length layer index size b len layer_is index_is real e =
    let first : first_block b ≡ index * 2 ^ layer = ap (λ i. i * 2 ^ b.layer) index_is ∙ ap (λ k. index * 2 ^ k) layer_is in
    let span : 2 ^ b.layer ≡ 2 ^ layer = ap (λ k. 2 ^ k) layer_is in
    omega (arith, first, span, len, real, e)

-- the nodes of a layer that cover a block cover all blocks
pub width_covers : (n layer : ℕ) → n ≤ real_width n layer * 2 ^ layer
width_covers n layer = elim (cases_lt (real_width n layer * 2 ^ layer) n) [
  | inr le ↦ le
  | inl lt ↦
      let p : ℕ = 2 ^ layer in
      let some : 0 < p = pow_pos layer in
      let whole : n / p * p + n % p ≡ n = div-add-mod' n p in
      elim (cases_lt 0 (n % p)) [
        | inl odd ↦ let up : n / p + 1 ≤ real_width n layer = omega (arith, odd) in let far = mul-le-mul_right p up in absurd (omega (arith, far, whole, lt, some))
        | inr even ↦ let up : n / p ≤ real_width n layer = omega (arith, even) in let far = mul-le-mul_right p up in absurd (omega (arith, far, whole, lt, even))
      ]
]

-- a node that begins with a block of the file
pub real_index : (n layer i : ℕ) → i * 2 ^ layer < n → i < real_width n layer
real_index n layer i real = elim (cases_lt i (real_width n layer)) [
  | inl lt ↦ lt
  | inr le ↦ let all = width_covers n layer in let far = mul-le-mul_right {m = real_width n layer} {n = i} (2 ^ layer) le in absurd (omega (arith, far, real, all))
]
