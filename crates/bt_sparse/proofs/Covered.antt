-- How many nodes of the layers of a run cover a block.
use Rattle.std.proofs.Common.{◌≡◌, ℕ, ◌+◌, ◌-◌, ◌*◌, ◌/◌, ◌^◌, ◌<◌, ◌≤◌, min, refl, ap, ◌∙◌, arith}
use Rattle.std.proofs.lemmas.Nat.{pow_pos}
use Rattle.std.proofs.lemmas.Grind.{div_ceil_times}
use Rattle.bt_tree.specs.TreeShape.{real_width}
use Rattle.bt_tree.proofs.TreeShape.{real_le}
use Rattle.bt_sparse.specs.declared.claim.Claim.{Claim}
use Rattle.bt_sparse.specs.Claim.{run_height, run_node}
use Rattle.bt_sparse.specs.ExpansionSteps.{covered_count}
use Rattle.bt_sparse.proofs.Halves.{power_next, power_split}
use Rattle.bt_sparse.proofs.Values.{widths_halve}

-- the next layer has half as many nodes that cover a block, rounded up
pub real_next : (n l : ℕ) → real_width n (l + 1) ≡ (real_width n l + 1) / 2
real_next n l =
    let below = widths_halve n l ((real_width n l + 1) / 2) (omega arith) in
    let rounds = (div_ceil_times n (2 ^ (l + 1)) (pow_pos (l + 1))).0 in
    let both = ap (λ w. real_width n (l + 1) * w) (power_next l) in
    let above = real_le n (2 ^ l) (2 * real_width n (l + 1)) (pow_pos l) (omega arith) in
    omega arith

-- how many nodes a layer has, and where they begin
pub half_width : (c : Claim) (above : ℕ) → above < run_height c → 2 ^ (run_height c - above) ≡ 2 ^ (run_height c - (above + 1)) * 2
half_width c above low = power_split (run_height c - above) (run_height c - (above + 1)) 1 (omega arith)

pub half_first : (c : Claim) (above : ℕ) → above < run_height c → run_node c * 2 ^ (run_height c - above) ≡ 2 * (run_node c * 2 ^ (run_height c - (above + 1)))
half_first c above low = ap (λ p. run_node c * p) (half_width c above low) ∙ omega arith

pub covered_limit : (n : ℕ) (c : Claim) (above : ℕ) → covered_count n c above ≤ 2 ^ (run_height c - above)
unfolding covered_count
covered_limit n c above = omega arith

-- a node that covers a block is one of these
pub covered_here : (n : ℕ) (c : Claim) (above i : ℕ) → run_node c * 2 ^ (run_height c - above) ≤ i
    → i < run_node c * 2 ^ (run_height c - above) + 2 ^ (run_height c - above) → i < real_width n (c.base + above)
    → i < run_node c * 2 ^ (run_height c - above) + covered_count n c above
unfolding covered_count
covered_here n c above i from to real = omega arith

-- and after them there is none
pub covered_past : (n : ℕ) (c : Claim) (above : ℕ) → covered_count n c above < 2 ^ (run_height c - above)
    → real_width n (c.base + above) ≤ run_node c * 2 ^ (run_height c - above) + covered_count n c above
unfolding covered_count
covered_past n c above less = omega arith

-- the next layer has half as many, rounded up
pub covered_next : (n : ℕ) (c : Claim) (above : ℕ) → above < run_height c → covered_count n c (above + 1) ≡ (covered_count n c above + 1) / 2
unfolding covered_count
covered_next n c above low =
    let layer : c.base + (above + 1) ≡ c.base + above + 1 = omega arith in
    let next : real_width n (c.base + (above + 1)) ≡ (real_width n (c.base + above) + 1) / 2 = ap (real_width n) layer ∙ real_next n (c.base + above) in
    omega (arith, half_width c above low, half_first c above low)

-- in the run's own layer
pub covered_run : (n : ℕ) (c : Claim) (size index : ℕ) → size ≡ 2 ^ run_height c → index ≡ run_node c * 2 ^ run_height c
    → covered_count n c 0 ≡ min size (real_width n c.base - index)
unfolding covered_count
covered_run n c size index power start =
    let flat : run_height c - 0 ≡ run_height c = omega arith in
    let base : c.base + 0 ≡ c.base = omega arith in
    rw (flat, base, power, start) refl
