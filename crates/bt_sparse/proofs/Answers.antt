-- A claim that is made of what is known agrees with it.
use Rattle.std.proofs.Common.{◌≡◌, ℕ, zero, suc, ◌+◌, ◌-◌, ◌*◌, ◌/◌, ◌^◌, ◌<◌, ◌≤◌, inl, inr, List, ◌++◌, length, Some, sym, ap, ◌∙◌, arith}
use Rattle.std.proofs.lemmas.Nat.{pow_pos, div-add-mod', mod_below}
use Rattle.bt_tree.specs.Tree.{padding_digest}
use Rattle.bt_tree.specs.Peaks.{row_node}
use Rattle.bt_sparse.specs.SparseTree.{Facts, blocks_of, height, held_at, value_at, IsRooted}
use Rattle.bt_sparse.specs.declared.claim.Claim.{Claim}
use Rattle.bt_sparse.specs.Claim.{Claims, in_run, on_path, uncle, run_height, run_top, run_node, run_digest, path_node, path_digest, parent_digest, sibling_of, HasShape}
use Rattle.bt_sparse.specs.Answer.{IsMadeOf}
use Rattle.bt_sparse.proofs.Halves.{parity, power_split}
use Rattle.bt_sparse.proofs.Values.{value_covers, value_padding, value_inside, cases_node, widths_halve}
use Rattle.bt_sparse.proofs.Claims.{half_below, path_suc, shape_start}
use Rattle.bt_sparse.proofs.Differences.{left_value}

-- what stands above two values is their digest
pub value_above : (dig : List ℕ → List ℕ) (k : Facts) (layer i : ℕ) (left right : List ℕ) → IsRooted dig k → layer < height k
    → value_at dig k layer (2 * i) ≡ Some left → value_at dig k layer (2 * i + 1) ≡ Some right → value_at dig k (layer + 1) i ≡ Some (dig (left ++ right))
unfolding padding_digest
value_above dig k layer i left right rooted low l r =
    let at = value_inside _ _ _ _ _ l in
    elim (cases_node (blocks_of k) layer (2 * i) at) [
      | inl covers ↦
          let half : 2 * i / 2 ≡ i = omega arith in
          let p = rooted.below layer (2 * i) left (sym (value_covers dig k layer (2 * i) covers) ∙ l) low in
          let held : held_at k (layer + 1) i ≡ Some (dig (left ++ right)) = cc in
          left_value _ _ _ _ _ rooted held
      | inr past ↦
          let here = value_padding dig k layer (2 * i) past in
          let beside = value_padding dig k layer (2 * i + 1) record { inside = value_inside _ _ _ _ _ r; past = omega (arith, past.past) } in
          let room = power_split (height k - layer) (height k - (layer + 1)) 1 (omega arith) in
          let above = value_padding dig k (layer + 1) i record {
            inside = record { in_height = omega arith; in_width = omega (arith, at.in_width) };
            past = widths_halve (blocks_of k) layer i past.past;
          } in
          let next : layer + 1 ≡ suc layer = omega arith in
          let digest : padding_digest dig (layer + 1) ≡ dig (padding_digest dig layer ++ padding_digest dig layer) = ap (padding_digest dig) next in
          cc
    ]

module _ (dig : List ℕ → List ℕ) (k : Facts) (c : Claim) (rooted : IsRooted dig k) (shape : HasShape (height k) c) (answer : IsMadeOf dig k c) where
  run_value : (above i : ℕ) → above ≤ run_height c → i / 2 ^ (run_height c - above) ≡ run_node c
      → value_at dig k (c.base + above) i ≡ Some (row_node dig (run_digest c) above i)
  unfolding row_node
  run_value zero i low under =
      let flat : run_height c - 0 ≡ run_height c = omega arith in
      let same : i / 2 ^ run_height c * 2 ^ run_height c ≡ c.index = cc (shape_start shape) in
      let whole = div-add-mod' i (2 ^ run_height c) in
      let rest = mod_below i (2 ^ run_height c) (pow_pos (run_height c)) in
      let here : c.index + (i - c.index) ≡ i = omega arith in
      let base : c.base + 0 ≡ c.base = omega arith in
      cc (answer.run (i - c.index) (omega (arith, shape.power)))
  run_value (suc above) i low under =
      let next : c.base + suc above ≡ c.base + above + 1 = omega arith in
      let below : (j : ℕ) → j / 2 ≡ i → value_at dig k (c.base + above) j ≡ Some (row_node dig (run_digest c) above j) =
      λ j half. run_value above j (omega arith) (half_below (run_height c) above i j low half ∙ under) in
      cc (value_above dig k (c.base + above) i _ _ rooted (omega (arith, shape.in_height)) (below (2 * i) (omega arith)) (below (2 * i + 1) (omega arith)))

  parent_value : (layer i : ℕ) (own other : List ℕ) → value_at dig k layer i ≡ Some own → value_at dig k layer (sibling_of i) ≡ Some other → layer < height k
      → value_at dig k (layer + 1) (i / 2) ≡ Some (parent_digest dig i own other)
  parent_value layer i own other here beside low = elim (parity i) [
    | inl p ↦
        let left : 2 * (i / 2) ≡ i = omega (arith, p.0) in
        let right : 2 * (i / 2) + 1 ≡ sibling_of i = rw p.1 (omega (arith, p.0)) in
        rw p.1 (value_above dig k layer (i / 2) own other rooted low (cc) (cc))
    | inr p ↦
        let left : 2 * (i / 2) ≡ sibling_of i = rw p.1 (omega (arith, p.0)) in
        let right : 2 * (i / 2) + 1 ≡ i = omega (arith, p.0) in
        rw p.1 (value_above dig k layer (i / 2) other own rooted low (cc) (cc))
  ]

  path_value : (t : ℕ) → t ≤ length c.uncles → value_at dig k (run_top c + t) (path_node c t) ≡ Some (path_digest dig c t)
  unfolding path_digest
  path_value zero within =
      let none : run_height c - run_height c ≡ 0 = omega arith in
      let all : run_node c / 1 ≡ run_node c = omega arith in
      let flat : run_top c + 0 ≡ c.base + run_height c = omega arith in
      cc (run_value (run_height c) (run_node c) (omega arith) (ap (λ n. run_node c / 2 ^ n) none ∙ all))
  path_value (suc t) within =
      let half = path_suc c t in
      let next : run_top c + suc t ≡ run_top c + t + 1 = omega arith in
      cc (parent_value (run_top c + t) (path_node c t) _ _ (path_value t (omega arith)) (answer.uncles t (omega arith)) (omega (arith, shape.in_height)))

  pub answers_agree : (layer i : ℕ) (d : List ℕ) → Claims dig c layer i d → value_at dig k layer i ≡ Some d
  answers_agree layer i d (in_run h) = rw (h.here, h.digest) (run_value h.above i h.low h.under)
  answers_agree layer i d (on_path h) = rw (h.here, h.digest, h.node) (path_value h.above h.within)
  answers_agree layer i d (uncle h) = rw (h.here, h.digest, h.node) (answer.uncles h.above h.within)
