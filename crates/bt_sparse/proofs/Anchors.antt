-- The nodes above a leaf, and the nearest of them that is held.
use Rattle.std.proofs.Common.{◌≡◌, ℕ, ◌+◌, ◌-◌, ◌*◌, ◌/◌, ◌^◌, ◌<◌, ◌≤◌, List, None, is_some, ap, ◌∙◌, arith}
use Rattle.std.specs.Int.{div_ceil}
use Rattle.std.proofs.Math.Nat.{div-lt_iff_lt-mul}
use Rattle.std.proofs.lemmas.Nat.{pow_pos, pow-add}
use Rattle.std.proofs.lemmas.Grind.{div_ceil_times}
use Rattle.bt_tree.specs.TreeShape.{height_of, CoversBlock}
use Rattle.bt_tree.proofs.TreeShape.{height_is}
use Rattle.bt_sparse.specs.SparseTree.{Facts, blocks_of, height, held_at, value_at, IsRooted}
use Rattle.bt_sparse.proofs.Values.{value_covers}
use Rattle.bt_sparse.specs.Anchor.{IsAnchor}

-- among n things in groups of p, each lies in one of the groups
in_group : (n p i : ℕ) → 0 < p → i < n → i / p < div_ceil n p
in_group n p i some h = (div-lt_iff_lt-mul {k = p} {x = i} {y = div_ceil n p} some).1 (omega (arith, (div_ceil_times n p some).0))

-- each node above a leaf covers its block
pub covers_above : (n leaf layer : ℕ) → leaf < n → layer ≤ height_of n → CoversBlock n layer (leaf / 2 ^ layer)
covers_above n leaf layer h low =
    let split : height_of n ≡ (height_of n - layer) + layer = omega arith in
    let wide : n ≤ 2 ^ (height_of n - layer) * 2 ^ layer = omega (arith, (height_is n).enough, ap (λ k. 2 ^ k) split ∙ pow-add 2 (height_of n - layer) layer) in
    record {
      inside = record {
        in_height = low;
        in_width = (div-lt_iff_lt-mul {k = 2 ^ layer} {x = leaf} {y = 2 ^ (height_of n - layer)} (pow_pos layer)).1 (omega (arith, wide));
      };
      real = in_group n (2 ^ layer) leaf (pow_pos layer) h;
    }

-- so what is known there is what is held
pub known_above : (dig : List ℕ → List ℕ) (k : Facts) (leaf layer : ℕ) → leaf < blocks_of k → layer ≤ height k
    → value_at dig k layer (leaf / 2 ^ layer) ≡ held_at k layer (leaf / 2 ^ layer)
known_above dig k leaf layer h low = value_covers dig k layer (leaf / 2 ^ layer) (covers_above (blocks_of k) leaf layer h low)

-- the root, where nothing is held below it
pub anchor_at_root : (dig : List ℕ → List ℕ) (k : Facts) (leaf : ℕ) → leaf < blocks_of k → IsRooted dig k
    → ((l : ℕ) → l < height k → held_at k l (leaf / 2 ^ l) ≡ None) → IsAnchor k leaf (height k)
anchor_at_root dig k leaf h rooted below =
    let wide : leaf < 1 * 2 ^ height k = omega (arith, (height_is (blocks_of k)).enough) in
    let first : leaf / 2 ^ height k < 1 = (div-lt_iff_lt-mul {k = 2 ^ height k} {x = leaf} {y = 1} (pow_pos (height k))).1 wide in
    let zero_is : leaf / 2 ^ height k ≡ 0 = omega arith in
    record {
      inside = omega arith;
      held = ap (λ o. is_some o) (ap (λ i. held_at k (height k) i) zero_is ∙ rooted.top);
      nearest = below;
    }
