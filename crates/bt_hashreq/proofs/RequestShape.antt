-- The key that asks for a leaf has the right shape.
use Rattle.std.proofs.Common.{◌≡◌, ℕ, zero, suc, ◌+◌, ◌-◌, ◌*◌, ◌/◌, ◌^◌, ◌<◌, ◌≤◌, min, None, is_some, true, false, ap, sym, refl, ◌∙◌, subst, arith}
use Rattle.std.proofs.Math.Nat.{div-lt_iff_lt-mul, mul-le-mul_right, mul-mod_left}
use Rattle.std.proofs.lemmas.Nat.{pow_pos, pow-add}
use Rattle.bt_tree.specs.Blocks.{IsFileLength, block_count}
use Rattle.bt_tree.specs.TreeShape.{height_of}
use Rattle.bt_tree.proofs.TreeShape.{height_is, height_limit, pow_le}
use Rattle.bt_sparse.specs.SparseTree.{Facts, blocks_of, height, held_at}
use Rattle.bt_hashreq.specs.declared.key.HashKey.{HashKey}
use Rattle.bt_sparse.specs.Anchor.{IsAnchor}
use Rattle.bt_hashreq.specs.Request.{max_run_height}
use Rattle.bt_hashreq.specs.Law.{IsLawfulPlan, PlansAreLawful}
use Rattle.bt_hashreq.proofs.ClaimRun.{height_of-pow, run_length}

-- a leaf that is not held has its anchor above it
pub anchor_above : (k : Facts) (leaf anchor : ℕ) → held_at k 0 leaf ≡ None → IsAnchor k leaf anchor → 1 ≤ anchor
anchor_above k leaf zero none a =
    let one : leaf / 1 ≡ leaf = omega arith in
    let here : is_some (held_at k 0 leaf) ≡ true = subst (λ (i : ℕ). is_some (held_at k 0 i) ≡ true) one a.held in
    let both : false ≡ true = sym (ap (λ o. is_some o) none) ∙ here in
    absurd cc
anchor_above k leaf (suc n) none a = omega arith

-- the run of 2 ^ m leaves around a leaf of a tree of height h
run_inside : (leaf m h : ℕ) → m ≤ h → leaf < 2 ^ h → leaf / 2 ^ m * 2 ^ m + 2 ^ m ≤ 2 ^ h
run_inside leaf m h low below =
    let split : h ≡ (h - m) + m = omega arith in
    let power : 2 ^ h ≡ 2 ^ (h - m) * 2 ^ m = ap (λ k. 2 ^ k) split ∙ pow-add 2 (h - m) m in
    let before : leaf / 2 ^ m < 2 ^ (h - m)
    = (div-lt_iff_lt-mul {k = 2 ^ m} {x = leaf} {y = 2 ^ (h - m)} (pow_pos m)).1 (omega (arith, power, below)) in
    let next : leaf / 2 ^ m + 1 ≤ 2 ^ (h - m) = omega arith in
    omega (arith, power, mul-le-mul_right {m = leaf / 2 ^ m + 1} {n = 2 ^ (h - m)} (2 ^ m) next)

blocks_limit : (bytes : ℕ) → IsFileLength bytes → block_count bytes ≤ 2 ^ 26
blocks_limit bytes lawful =
    let short : bytes ≤ 2 ^ 40 = lawful.limit in
    let below : (bytes + 16383) / 16384 < 2 ^ 26 + 1
    = (div-lt_iff_lt-mul {k = 16384} {x = bytes + 16383} {y = 2 ^ 26 + 1} (omega arith)).1 (omega (arith, short)) in
    omega (arith, below)

-- for m = min anchor 9
lawful_run : (k : Facts) (leaf anchor m : ℕ) → leaf < 2 ^ height k → height k ≤ 26 → 1 ≤ anchor → anchor ≤ height k → m ≡ min anchor max_run_height
    → IsLawfulPlan k (record { root = k.root; base = 0; index = leaf / 2 ^ m * 2 ^ m; length = 2 ^ m; layers = anchor - 1 })
lawful_run k leaf anchor m below low some inside m-is =
    let least : 1 ≤ m = omega (arith, m-is) in
    let most : m ≤ 9 = omega (arith, m-is) in
    let under : m ≤ height k = omega (arith, m-is) in
    let two : 2 ≤ 2 ^ m = pow_le 1 m least in
    let long : 2 ^ m ≤ 512 = pow_le m 9 most in
    let run = run_length (2 ^ m) m two long refl in
    let top : height_of (2 ^ m) ≡ m = height_of-pow (2 ^ m) m refl in
    let all : height k ≡ height k - 0 = omega arith in
    record {
      shape = record { run = run; aligned = mul-mod_left (leaf / 2 ^ m) (2 ^ m); base = omega arith; layers = omega (arith, low, inside) };
      request = record {
        some = two;
        power = run.power;
        limit = long;
        aligned = mul-mod_left (leaf / 2 ^ m) (2 ^ m);
        low = omega (arith, top, under);
        in_width = subst (λ (h : ℕ). leaf / 2 ^ m * 2 ^ m + 2 ^ m ≤ 2 ^ h) all (run_inside leaf m (height k) under below);
        proof = omega (arith, some, inside);
      };
    }

pub plans_are_lawful : PlansAreLawful
plans_are_lawful k leaf key lawful h none plan =
    let low : height k ≤ 26 = height_limit (blocks_of k) (blocks_limit k.file_length lawful) in
    let below : leaf < 2 ^ height k = omega (arith, h, (height_is (blocks_of k)).enough) in
    let some : 1 ≤ plan.anchor = anchor_above k leaf plan.anchor none plan.nearest in
    subst (λ (key : HashKey). IsLawfulPlan k key) (sym plan.key_is)
    (lawful_run k leaf plan.anchor (min plan.anchor max_run_height) below low some plan.nearest.inside refl)
