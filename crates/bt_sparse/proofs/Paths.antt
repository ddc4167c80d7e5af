-- Every held node is checked.
use Rattle.std.proofs.Common.{◌≡◌, ℕ, zero, suc, ◌+◌, ◌-◌, ◌/◌, ◌^◌, List, ◌++◌, Some, sym, ap, ◌∙◌, arith}
use Rattle.bt_sparse.specs.SparseTree.{Facts, height, held_at, IsRooted, IsChecked, at_root, on_path}
use Rattle.bt_sparse.proofs.Values.{same_value, value_covers}

pub held_is_checked : (dig : List ℕ → List ℕ) (k : Facts) → IsRooted dig k → (up layer i : ℕ) (d : List ℕ) → layer + up ≡ height k
    → held_at k layer i ≡ Some d → IsChecked dig k layer i d
held_is_checked dig k rooted zero layer i d e held =
    let covers = rooted.covers layer i d held in
    let level : layer ≡ height k = omega arith in
    let power : 2 ^ (height k - layer) ≡ 1 = ap (λ n. 2 ^ n) (let none : height k - layer ≡ 0 = omega arith in none) in
    let first : i ≡ 0 = omega (arith, covers.inside.in_width, power) in
    let root : d ≡ k.root = same_value (held_at k (height k) 0) d k.root (ap (λ l. held_at k l 0) (sym level) ∙ ap (held_at k layer) (sym first) ∙ held) rooted.top in
    rw (level, first, root) (at_root rooted.top)
held_is_checked dig k rooted (suc up) layer i d e held =
    let p = rooted.below layer i d held (omega arith) in
    on_path layer i p.left p.right d (value_covers dig k layer i (rooted.covers layer i d held) ∙ held) p.left_value p.right_value
    (held_is_checked dig k rooted up (layer + 1) (i / 2) (dig (p.left ++ p.right)) (omega arith) p.parent)
