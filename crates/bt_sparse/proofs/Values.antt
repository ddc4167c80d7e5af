-- What is known of a node, by the kind of node.
use Rattle.std.proofs.Common.{◌≡◌, ℕ, suc, ◌+◌, ◌-◌, ◌*◌, ◌/◌, ◌^◌, ◌<◌, ◌≤◌, ◌⊎◌, inl, inr, Bool, true, false, cond, ltb, leb, ◌&&◌, List, length, Option, Some, None, refl, sym, ap, ◌∙◌, arith}
use Rattle.std.proofs.lemmas.Bool.{cases_lt, lt-ltb, le-ltb, le-leb, lt-leb, ltb-true, leb-true}
use Rattle.std.proofs.lemmas.Nat.{pow_pos}
use Rattle.std.proofs.Math.Nat.{pow-suc, mul-le-mul_right}
use Rattle.std.specs.Int.{div_ceil}
use Rattle.std.proofs.lemmas.Grind.{div_ceil_times}
use Rattle.bt_tree.specs.TreeShape.{height_of, real_width, IsInside, CoversBlock, IsPadding}
use Rattle.bt_tree.specs.Tree.{padding_digest}
use Rattle.bt_tree.proofs.TreeShape.{real_lt, real_le, real_some}
use Rattle.std.specs.FinMap as finite
use Rattle.bt_tree.specs.Blocks.{IsFileLength, block_count}
use Rattle.bt_sparse.specs.SparseTree.{Facts, blocks_of, height, held_at, value_at, root_facts, IsSound}
use Rattle.bt_sparse.proofs.NodeMaps.{digest_at_new, digest_at_cases, digest_at_empty}
use Rattle.bt_sparse.proofs.Halves.{power_next}

some_is : {X : Type 0} (x y : X) → Some x ≡ Some y → x ≡ y
some_is x y e = cc

pub same_value : {X : Type 0} (o : Option X) (x y : X) → o ≡ Some x → o ≡ Some y → x ≡ y
same_value o x y p q = some_is x y (sym p ∙ q)

pub none_some : {X : Type 0} (x : X) → None ≡ Some x → ⊥
none_some x e = cc

pub value_covers : (dig : List ℕ → List ℕ) (k : Facts) (layer i : ℕ) → CoversBlock (blocks_of k) layer i → value_at dig k layer i ≡ held_at k layer i
unfolding value_at
value_covers dig k layer i h = rw (le-leb layer (height k) h.inside.in_height, lt-ltb i (2 ^ (height k - layer)) h.inside.in_width, lt-ltb i (real_width (blocks_of k) layer) h.real) refl

pub value_padding : (dig : List ℕ → List ℕ) (k : Facts) (layer i : ℕ) → IsPadding (blocks_of k) layer i → value_at dig k layer i ≡ Some (padding_digest dig layer)
unfolding value_at
value_padding dig k layer i h = rw (le-leb layer (height k) h.inside.in_height, lt-ltb i (2 ^ (height k - layer)) h.inside.in_width, le-ltb i (real_width (blocks_of k) layer) h.past) refl

pub cases_node : (n layer i : ℕ) → IsInside n layer i → CoversBlock n layer i ⊎ IsPadding n layer i
cases_node n layer i h = elim (cases_lt i (real_width n layer)) [ inl lt ↦ inl record { inside = h; real = lt } | inr le ↦ inr record { inside = h; past = le } ]

-- a value is one of a node of the tree
pub value_inside : (dig : List ℕ → List ℕ) (k : Facts) (layer i : ℕ) (d : List ℕ) → value_at dig k layer i ≡ Some d → IsInside (blocks_of k) layer i
unfolding value_at
value_inside dig k layer i d e = go (leb layer (height k)) (ltb i (2 ^ (height k - layer))) _ refl refl e
  where
    go : (b c : Bool) (o : Option (List ℕ)) → leb layer (height k) ≡ b → ltb i (2 ^ (height k - layer)) ≡ c → cond (b && c) o None ≡ Some d → IsInside (blocks_of k) layer i
    go true true o p q e = record { in_height = leb-true layer (height k) p; in_width = ltb-true i (2 ^ (height k - layer)) q }
    go true false o p q e = absurd (none_some d e)
    go false c o p q e = absurd (none_some d e)

-- a node that covers a block lies below one that does
pub covers_parent : (n layer i : ℕ) → CoversBlock n layer i → layer < height_of n → CoversBlock n (layer + 1) (i / 2)
covers_parent n layer i h low =
    let p : ℕ = 2 ^ layer in
    let wide : 2 ^ (layer + 1) ≡ 2 ^ layer * 2 = power_next layer in
    let starts : i * 2 ^ layer < n = real_lt n (2 ^ layer) i (pow_pos layer) h.real in
    let even : i / 2 * 2 * 2 ^ layer ≤ i * 2 ^ layer = mul-le-mul_right (2 ^ layer) (omega arith) in
    let before : i / 2 * 2 ^ (layer + 1) < n = rw wide (omega arith) in
    let room : 2 ^ (height_of n - layer) ≡ 2 ^ (height_of n - (layer + 1)) * 2 = (let up : height_of n - layer ≡ suc (height_of n - (layer + 1)) = omega arith in ap (λ e. 2 ^ e) up) ∙ pow-suc 2 (height_of n - (layer + 1)) in
    record {
      inside = record { in_height = omega arith; in_width = omega (arith, h.inside.in_width, room) };
      real = elim (cases_lt (i / 2) (real_width n (layer + 1))) [ inl lt ↦ lt | inr le ↦ absurd (past (i / 2) (2 ^ (layer + 1)) (pow_pos (layer + 1)) le before) ];
    }
  where
    past : (j q : ℕ) → 0 < q → div_ceil n q ≤ j → j * q < n → ⊥
    past j q some le lt = omega (arith, rounds n q some, mul-le-mul_right q le)
      where
        rounds : (n q : ℕ) → 0 < q → n ≤ div_ceil n q * q
        rounds n q some = (div_ceil_times n q some).0

-- above a padding pair there is padding
pub widths_halve : (n layer i : ℕ) → real_width n layer ≤ 2 * i → real_width n (layer + 1) ≤ i
widths_halve n layer i le =
    let wide : 2 ^ (layer + 1) ≡ 2 ^ layer * 2 = power_next layer in
    let ends : n ≤ 2 * i * 2 ^ layer = omega (arith, (div_ceil_times n (2 ^ layer) (pow_pos layer)).0, mul-le-mul_right (2 ^ layer) le) in
    real_le n (2 ^ (layer + 1)) i (pow_pos (layer + 1)) (rw wide (omega arith))

-- nothing is known outside the tree
pub value_high : (dig : List ℕ → List ℕ) (k : Facts) (layer i : ℕ) → height k < layer → value_at dig k layer i ≡ None
unfolding value_at
value_high dig k layer i h = rw lt-leb refl

pub value_wide : (dig : List ℕ → List ℕ) (k : Facts) (layer i : ℕ) → 2 ^ (height k - layer) ≤ i → value_at dig k layer i ≡ None
unfolding value_at
value_wide dig k layer i h = elim (cases_lt (height k) layer) [
  | inl lt ↦ rw lt-leb refl
  | inr le ↦ rw (le-leb, le-ltb) refl
]

-- a tree that holds its root alone
pub root_sound : (dig : List ℕ → List ℕ) (bytes : ℕ) (root : List ℕ) → IsFileLength bytes → length root ≡ 32 → IsSound dig (root_facts bytes root)
root_sound dig bytes root lawful size = record {
  lawful = lawful;
  rooted = record {
    top = digest_at_new finite.empty (height_of (block_count bytes)) 0 root;
    covers = λ layer i d held. let at = only layer i d held in rw (at.0, at.1) record {
      inside = record { in_height = omega arith; in_width = pow_pos (height_of (block_count bytes) - height_of (block_count bytes)) };
      real = real_some (block_count bytes) (2 ^ height_of (block_count bytes)) (pow_pos (height_of (block_count bytes))) (omega (arith, lawful.some));
    };
    below = λ layer i d held low. absurd (omega (arith, (only layer i d held).0, low));
  };
  digests = λ layer i d held. ap length (only layer i d held).2 ∙ size;
}
  where
    only : (layer i : ℕ) (d : List ℕ) → held_at (root_facts bytes root) layer i ≡ Some d → (layer ≡ height_of (block_count bytes)) × (i ≡ 0) × (d ≡ root)
    only layer i d held = elim (digest_at_cases finite.empty (height_of (block_count bytes)) 0 layer i root d held) [
      | inl here ↦ here
      | inr there ↦ absurd (none_some d (sym (digest_at_empty layer i) ∙ there))
    ]
