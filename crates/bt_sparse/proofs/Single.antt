-- A claim says one digest of a node.
use Rattle.std.proofs.Common.{◌≡◌, ◌≢◌, ℕ, ◌+◌, ◌-◌, ◌/◌, ◌%◌, ◌^◌, inl, inr, true, false, eqb, List, [], get_or, sym, ap, ◌∙◌, arith}
use Rattle.bt_tree.specs.Peaks.{row_node}
use Rattle.bt_sparse.specs.declared.claim.Claim.{Claim}
use Rattle.bt_sparse.specs.Claim.{Claims, in_run, on_path, uncle, IsInRun, IsOnPath, IsUncle, run_height, run_node, run_digest, path_digest, sibling_of}
use Rattle.bt_sparse.proofs.Halves.{parity}

sibling_apart : (e : ℕ) → sibling_of e ≢ e
sibling_apart e = elim (parity e) [
  | inl p ↦ λ same. absurd (omega (arith, up p.1 same))
  | inr p ↦ λ same. absurd (omega (arith, p.0, down p.1 same))
]
  where
    up : eqb (e % 2) 0 ≡ true → sibling_of e ≡ e → e + 1 ≡ e
    up is same = rw is at same

    down : eqb (e % 2) 0 ≡ false → sibling_of e ≡ e → e - 1 ≡ e
    down is same = rw is at same

top_is : (c : Claim) (k i : ℕ) → k ≡ run_height c → i / 2 ^ (run_height c - k) ≡ run_node c → i ≡ run_node c
top_is c k i e under =
    let none : run_height c - k ≡ 0 = omega arith in
    let same : i / 1 ≡ run_node c = ap (λ n. i / 2 ^ n) (sym none) ∙ under in
    omega (arith, same)

run_path : (dig : List ℕ → List ℕ) (c : Claim) (layer i : ℕ) (d e : List ℕ) → IsInRun dig c layer i d → IsOnPath dig c layer i e → d ≡ e
unfolding path_digest
run_path dig c layer i d e r p =
    let above : r.above ≡ run_height c = omega (arith, r.here, r.low, p.here) in
    let none : p.above ≡ 0 = omega (arith, r.here, r.low, p.here) in
    let node : i ≡ run_node c = top_is c r.above i above r.under in
    let first : path_digest dig c p.above ≡ path_digest dig c 0 = ap (path_digest dig c) none in
    r.digest ∙ ap (λ k. row_node dig (run_digest c) k i) above ∙ ap (row_node dig (run_digest c) (run_height c)) node ∙ sym first ∙ sym p.digest

run_uncle : (dig : List ℕ → List ℕ) (c : Claim) (layer i : ℕ) (d e : List ℕ) → IsInRun dig c layer i d → IsUncle c layer i e → ⊥
run_uncle dig c layer i d e r u =
    let above : r.above ≡ run_height c = omega (arith, r.here, r.low, u.here) in
    let none : u.above ≡ 0 = omega (arith, r.here, r.low, u.here) in
    let node : i ≡ run_node c = top_is c r.above i above r.under in
    let flat : run_node c / 1 ≡ run_node c = omega arith in
    sibling_apart (run_node c) (ap sibling_of (sym flat) ∙ ap (λ n. sibling_of (run_node c / 2 ^ n)) (sym none) ∙ sym u.node ∙ node)

path_uncle : (dig : List ℕ → List ℕ) (c : Claim) (layer i : ℕ) (d e : List ℕ) → IsOnPath dig c layer i d → IsUncle c layer i e → ⊥
path_uncle dig c layer i d e p u =
    let same : p.above ≡ u.above = omega (arith, p.here, u.here) in
    sibling_apart (run_node c / 2 ^ u.above) (sym u.node ∙ p.node ∙ ap (λ n. run_node c / 2 ^ n) same)

pub claims_one : (dig : List ℕ → List ℕ) (c : Claim) (layer i : ℕ) (d e : List ℕ) → Claims dig c layer i d → Claims dig c layer i e → d ≡ e
claims_one dig c layer i d e (in_run r) (in_run s) = (let same : r.above ≡ s.above = omega (arith, r.here, s.here) in r.digest ∙ ap (λ k. row_node dig (run_digest c) k i) same ∙ sym s.digest)
claims_one dig c layer i d e (in_run r) (on_path p) = run_path dig c layer i d e r p
claims_one dig c layer i d e (in_run r) (uncle u) = absurd (run_uncle dig c layer i d e r u)
claims_one dig c layer i d e (on_path p) (in_run r) = sym (run_path dig c layer i e d r p)
claims_one dig c layer i d e (on_path p) (on_path q) = (let same : p.above ≡ q.above = omega (arith, p.here, q.here) in p.digest ∙ ap (path_digest dig c) same ∙ sym q.digest)
claims_one dig c layer i d e (on_path p) (uncle u) = absurd (path_uncle dig c layer i d e p u)
claims_one dig c layer i d e (uncle u) (in_run r) = absurd (run_uncle dig c layer i e d r u)
claims_one dig c layer i d e (uncle u) (on_path p) = absurd (path_uncle dig c layer i e d p u)
claims_one dig c layer i d e (uncle u) (uncle v) = (let same : u.above ≡ v.above = omega (arith, u.here, v.here) in u.digest ∙ ap (λ t. get_or c.uncles t []) same ∙ sym v.digest)
