-- The pairs of siblings that a claim names.
use Rattle.std.proofs.Common.{◌≡◌, ℕ, zero, suc, ◌+◌, ◌-◌, ◌*◌, ◌/◌, ◌%◌, ◌^◌, ◌<◌, ◌≤◌, inl, inr, eqb, cond, List, [], ◌∷◌, ◌++◌, length, get_or, refl, sym, ap, ◌∙◌, subst, append-nil, append_assoc, add-one, arith}
use Rattle.std.specs.List.{All, Contains}
use Rattle.std.proofs.Math.Nat.{mul-le-mul_left, div-mul-le_self, lt-div-mul-add}
use Rattle.std.proofs.lemmas.Nat.{div-mul-add, pow_pos}
use Rattle.std.proofs.lemmas.Bool.{cases_lt}
use Rattle.std.proofs.lemmas.List.Elements.{All-nil, All-append, All-push, All-contains, Contains-append_left, Contains-append_right, Contains-push}
use Rattle.bt_tree.specs.Limits.{max_block_count, max_height}
use Rattle.bt_tree.specs.TreeShape.{real_width}
use Rattle.bt_tree.specs.Peaks.{row_node}
use Rattle.bt_tree.proofs.TreeNodes.{row_parent}
use Rattle.bt_tree.proofs.TreeShape.{pow_le}
use Rattle.bt_sparse.specs.declared.claim.Claim.{Claim}
use Rattle.bt_sparse.specs.declared.expansion.ClaimedPair.{ClaimedPair}
use Rattle.bt_sparse.specs.Claim.{Claims, in_run, on_path, uncle, run_height, run_top, run_node, run_digest, path_node, path_digest, parent_digest, top_layer, HasShape}
use Rattle.bt_sparse.specs.ExpansionSteps.{run_pair, layer_pairs, covered_count, run_pairs, path_pair, path_pairs, claimed_pairs, AreRunNodes, AreParents, IsShort, IsPairOf}
use Rattle.bt_sparse.proofs.Halves.{parity}
use Rattle.bt_sparse.proofs.Claims.{half_below, at_top, half_sibling, path_suc, shape_start, run_pair_claimed, path_pair_claimed}
use Rattle.bt_sparse.proofs.Covered.{real_next, half_first, covered_limit, covered_here}

module _ (dig : List ℕ → List ℕ) (c : Claim) where
  pub layer_pairs_more : (above first n : ℕ) → layer_pairs dig c above first (n + 1) ≡ layer_pairs dig c above first n ++ run_pair dig c above (first + n) ∷ []
  unfolding layer_pairs
  layer_pairs_more above first n = rw (add-one n) refl

  -- the pair that two nodes of a layer make
  pub layer_pair : (above first layer i : ℕ) (row : List (List ℕ)) → layer ≡ c.base + above → AreRunNodes dig c above (2 * first) row → i < length row / 2
      → record { layer = layer; index = first + i; left = get_or row (2 * i) []; right = get_or row (2 * i + 1) [] } ≡ run_pair dig c above (first + i)
  layer_pair above first layer i row e nodes lt =
      let left : 2 * first + 2 * i ≡ 2 * (first + i) = omega arith in
      let right : 2 * first + (2 * i + 1) ≡ 2 * (first + i) + 1 = omega arith in
      rw (e, nodes (2 * i) (omega arith), nodes (2 * i + 1) (omega arith), left, right) refl

  -- the nodes above nodes of the run
  nodes_above : (above first start : ℕ) (row up : List (List ℕ)) → start ≡ 2 * first
      → AreRunNodes dig c above start row → AreParents dig row up (length row / 2) → AreRunNodes dig c (above + 1) first up
  nodes_above above first start row up e nodes h i lt =
      let left : start + 2 * i ≡ 2 * (first + i) = omega arith in
      let right : start + (2 * i + 1) ≡ 2 * (first + i) + 1 = omega arith in
      let inside : i < length row / 2 = omega (arith, h.size) in
      let next : above + 1 ≡ suc above = omega arith in
      cc (h.digests i inside, nodes (2 * i) (omega arith), nodes (2 * i + 1) (omega arith), row_parent dig (run_digest c) above (first + i) _ _ refl refl)

  -- the run itself
  pub run_nodes : AreRunNodes dig c 0 c.index c.run
  unfolding row_node
  run_nodes i lt = let e : c.index + i - c.index ≡ i = omega arith in sym (ap (λ k. get_or c.run k []) e)

  -- one step up the path
  pub path_digest_more : (t : ℕ) → path_digest dig c (t + 1) ≡ parent_digest dig (path_node c t) (path_digest dig c t) (get_or c.uncles t [])
  unfolding path_digest
  path_digest_more t = rw (add-one t) refl

  pub path_pairs_more : (t : ℕ) → path_pairs dig c (t + 1) ≡ path_pairs dig c t ++ path_pair dig c t ∷ []
  unfolding path_pairs
  path_pairs_more t = rw (add-one t) refl

  pub path_first : path_digest dig c 0 ≡ row_node dig (run_digest c) (run_height c) (run_node c)
  unfolding path_digest
  path_first = refl

pub record IsPathStep (dig : List ℕ → List ℕ) (c : Claim) (t : ℕ) (pair : ClaimedPair) (digest : List ℕ) : Type 0 where
  pub pair_is : pair ≡ path_pair dig c t
  pub digest_is : digest ≡ path_digest dig c (t + 1)

pub path_step : (dig : List ℕ → List ℕ) (c : Claim) (t layer node : ℕ) (own other : List ℕ) (both : List ℕ × List ℕ) → layer ≡ run_top c + t
    → node ≡ path_node c t → own ≡ path_digest dig c t → other ≡ get_or c.uncles t [] → both ≡ cond (eqb (node % 2) 0) (own, other) (other, own)
    → IsPathStep dig c t record { layer = layer; index = node / 2; left = both.0; right = both.1 } (dig (both.0 ++ both.1))
path_step dig c t layer node own other both l n o u b =
    rw (b, l, n, o, u) (elim (parity (path_node c t)) [
      | inl p ↦ record { pair_is = rw p.1 refl; digest_is = rw (path_digest_more dig c t, p.1) refl }
      | inr p ↦ record { pair_is = rw p.1 refl; digest_is = rw (path_digest_more dig c t, p.1) refl }
    ])

pub path_up : (c : Claim) (t : ℕ) → path_node c t / 2 ≡ path_node c (t + 1)
path_up c t = path_suc c t ∙ ap (path_node c) (sym (add-one t))

pub run_pairs_none : (dig : List ℕ → List ℕ) (n : ℕ) (c : Claim) (ps : List ClaimedPair) → ps ≡ ps ++ run_pairs dig n c 0
unfolding run_pairs
run_pairs_none dig n c ps = sym (append-nil ps)

-- from the nodes of a layer to those above
pub record IsLayerAbove (dig : List ℕ → List ℕ) (n : ℕ) (c : Claim) (above first : ℕ) (up : List (List ℕ)) (old new : List ClaimedPair) : Type 0 where
  pub first_is : first ≡ run_node c * 2 ^ (run_height c - (above + 1))
  pub size : length up ≡ covered_count n c (above + 1)
  pub nodes : AreRunNodes dig c (above + 1) first up
  pub pairs : new ≡ old ++ run_pairs dig n c (above + 1)

pub layer_above : (dig : List ℕ → List ℕ) (n : ℕ) (c : Claim) (above start : ℕ) (row up : List (List ℕ)) (old mid new : List ClaimedPair)
    → above < run_height c → start ≡ run_node c * 2 ^ (run_height c - above) → length row / 2 ≡ covered_count n c (above + 1)
    → AreRunNodes dig c above start row → AreParents dig row up (length row / 2) → mid ≡ old ++ run_pairs dig n c above
    → (AreRunNodes dig c above (2 * (start / 2)) row → new ≡ mid ++ layer_pairs dig c above (start / 2) (length row / 2))
    → IsLayerAbove dig n c above (start / 2) up old new
unfolding run_pairs
layer_above dig n c above start row up old mid new low from count nodes parents before added =
    let twice = from ∙ half_first c above low in
    let first : start / 2 ≡ run_node c * 2 ^ (run_height c - (above + 1)) = omega arith in
    let doubled : start ≡ 2 * (start / 2) = omega arith in
    record {
      first_is = first;
      size = parents.size ∙ count;
      nodes = nodes_above dig c above (start / 2) start row up doubled nodes parents;
      pairs = added (subst (λ s. AreRunNodes dig c above s row) doubled nodes) ∙ rw (before, count, first, add-one above) (append_assoc old _ _);
    }

-- numbers of a run's layers are small
pub short_layer : (c : Claim) (above first : ℕ) (row : List (List ℕ)) → IsShort c → above ≤ run_height c
    → first ≡ run_node c * 2 ^ (run_height c - above) → length row ≤ 2 ^ (run_height c - above) → first + length row ≤ max_block_count
short_layer c above first row short low from size =
    let less = pow_le (run_height c - above) (run_height c) (omega arith) in
    omega (arith, short.narrow, short.power, short.start, mul-le-mul_left (run_node c) less)

-- a claim of the right shape has a short run
pub short_run : (h : ℕ) (c : Claim) → HasShape h c → h ≤ max_height → IsShort c
short_run h c shape high = record {
  some = elim (cases_lt 0 (run_height c)) [
    | inl lt ↦ lt
    | inr le ↦ let none : run_height c ≡ 0 = omega arith in absurd (omega (arith, shape.some, shape.power, ap (λ k. 2 ^ k) none))
  ];
  power = shape.power;
  start = shape_start shape;
  narrow = omega (arith, shape.in_width, pow_le (h - c.base) 26 (omega arith));
  low = omega (arith, shape.in_height);
}

-- the indices below a node, in rows of this width
pub in_row : (node w i : ℕ) → node * w ≤ i → i < node * w + w → i / w ≡ node
in_row node w i from to =
    let split : i ≡ node * w + (i - node * w) = omega arith in
    ap (λ k. k / w) split ∙ div-mul-add node w (i - node * w) (omega arith)

-- a pair of these siblings is among them
pub record HasPair (pairs : List ClaimedPair) (layer i : ℕ) : Type 0 where
  pub left : List ℕ
  pub right : List ℕ
  pub among : Contains pairs record { layer = layer; index = i; left = left; right = right }

-- a node that covers a block lies below one that does
parent_covers : (n layer i : ℕ) → i < real_width n layer → i / 2 < real_width n (layer + 1)
parent_covers n layer i real = omega (arith, real_next n layer)

module _ (dig : List ℕ → List ℕ) (n : ℕ) (c : Claim) where
  in_left : (xs ys : List ClaimedPair) (layer i : ℕ) → HasPair xs layer i → HasPair (xs ++ ys) layer i
  in_left xs ys layer i h = record { left = h.left; right = h.right; among = Contains-append_left xs ys _ h.among }

  in_right : (xs ys : List ClaimedPair) (layer i : ℕ) → HasPair ys layer i → HasPair (xs ++ ys) layer i
  in_right xs ys layer i h = record { left = h.left; right = h.right; among = Contains-append_right xs ys _ h.among }

  -- each pair is claimed
  layer_claimed : (above first count : ℕ) → above < run_height c
      → ((i : ℕ) → first ≤ i → i < first + count → i / 2 ^ (run_height c - suc above) ≡ run_node c) → All (IsPairOf dig c) (layer_pairs dig c above first count)
  unfolding layer_pairs
  layer_claimed above first zero low under = All-nil (IsPairOf dig c)
  layer_claimed above first (suc count) low under =
      All-push (IsPairOf dig c) _ _ (layer_claimed above first count low (λ i from to. under i from (omega arith)))
      (run_pair_claimed dig c above (first + count) low (under (first + count) (omega arith) (omega arith)))

  run_pairs_claimed : (k : ℕ) → k ≤ run_height c → All (IsPairOf dig c) (run_pairs dig n c k)
  unfolding run_pairs
  run_pairs_claimed zero low = All-nil (IsPairOf dig c)
  run_pairs_claimed (suc k) low =
      All-append (IsPairOf dig c) _ _ (run_pairs_claimed k (omega arith)) (layer_claimed k _ _ (omega arith)
      (λ i from to. in_row (run_node c) (2 ^ (run_height c - suc k)) i from (omega (arith, to, covered_limit n c (suc k)))))

  path_pairs_claimed : (t : ℕ) → t ≤ length c.uncles → All (IsPairOf dig c) (path_pairs dig c t)
  unfolding path_pairs
  path_pairs_claimed zero within = All-nil (IsPairOf dig c)
  path_pairs_claimed (suc t) within = All-push (IsPairOf dig c) _ _ (path_pairs_claimed t (omega arith)) (path_pair_claimed dig c t within)

  pub pairs_claimed : All (IsPairOf dig c) (claimed_pairs dig n c)
  pairs_claimed = All-append (IsPairOf dig c) _ _ (run_pairs_claimed (run_height c) (omega arith)) (path_pairs_claimed (length c.uncles) (omega arith))

  layer_pairs_has : (above first count i : ℕ) → first ≤ i → i < first + count → Contains (layer_pairs dig c above first count) (run_pair dig c above i)
  unfolding layer_pairs
  layer_pairs_has above first zero i from to = absurd (omega arith)
  layer_pairs_has above first (suc count) i from to = elim (cases_lt i (first + count)) [
    | inl lt ↦ Contains-append_left (layer_pairs dig c above first count) _ _ (layer_pairs_has above first count i from lt)
    | inr le ↦ let last : i ≡ first + count = omega arith in rw last (Contains-push (layer_pairs dig c above first count) _)
  ]

  run_pairs_has : (top k i : ℕ) → k < top → top ≤ run_height c → i / 2 ^ (run_height c - k) ≡ run_node c → i < real_width n (c.base + k)
      → HasPair (run_pairs dig n c top) (c.base + k) (i / 2)
  unfolding run_pairs
  run_pairs_has zero k i low within under real = absurd (omega arith)
  run_pairs_has (suc top) k i low within under real = elim (cases_lt k top) [
    | inl lt ↦ in_left (run_pairs dig n c top) _ (c.base + k) (i / 2) (run_pairs_has top k i lt (omega arith) under real)
    | inr le ↦
        let last : k ≡ top = omega arith in
        let node : i / 2 / 2 ^ (run_height c - suc top) ≡ run_node c = cc (half_below (run_height c) top (i / 2) i (omega arith) refl) in
        let times = ap (λ q. q * 2 ^ (run_height c - suc top)) node in
        let floor = div-mul-le_self (i / 2) (2 ^ (run_height c - suc top)) in
        let next = lt-div-mul-add {a = i / 2} {b = 2 ^ (run_height c - suc top)} (pow_pos (run_height c - suc top)) in
        let above : c.base + k + 1 ≡ c.base + suc top = omega arith in
        let from : run_node c * 2 ^ (run_height c - suc top) ≤ i / 2 = omega arith in
        let among = covered_here n c (suc top) (i / 2) from (omega arith) (rw above at (parent_covers n (c.base + k) i real)) in
        in_right (run_pairs dig n c top) _ (c.base + k) (i / 2) (rw last record { left = _; right = _; among = layer_pairs_has top _ _ (i / 2) from among })
  ]

  path_pairs_has : (t k : ℕ) → k < t → Contains (path_pairs dig c t) (path_pair dig c k)
  unfolding path_pairs
  path_pairs_has zero k low = absurd (omega arith)
  path_pairs_has (suc t) k low = elim (cases_lt k t) [
    | inl lt ↦ Contains-append_left (path_pairs dig c t) _ _ (path_pairs_has t k lt)
    | inr le ↦ (let last : k ≡ t = omega arith in rw last (Contains-push (path_pairs dig c t) (path_pair dig c t)))
  ]

  -- each claimed node but the top that covers a block is in one
  has_pair : (layer i : ℕ) (d : List ℕ) → Claims dig c layer i d → layer < top_layer c → i < real_width n layer → HasPair (claimed_pairs dig n c) layer (i / 2)
  has_pair layer i d claim low real = go claim
    where
      path : (t : ℕ) → layer ≡ run_top c + t → i / 2 ≡ path_node c t / 2 → HasPair (claimed_pairs dig n c) layer (i / 2)
      path t here half = rw (here, half) (in_right (run_pairs dig n c (run_height c)) _ (run_top c + t) (path_node c t / 2)
          record { left = _; right = _; among = path_pairs_has (length c.uncles) t (omega arith) })

      go : Claims dig c layer i d → HasPair (claimed_pairs dig n c) layer (i / 2)
      go (in_run r) = elim (cases_lt r.above (run_height c)) [
        | inl lt ↦ rw r.here (in_left (run_pairs dig n c (run_height c)) _ (c.base + r.above) (i / 2)
            (run_pairs_has (run_height c) r.above i lt (omega arith) r.under (rw r.here at real)))
        | inr le ↦ path 0 (omega (arith, r.here, r.low)) (ap (λ j. j / 2) (at_top c r.above i le r.low r.under))
      ]
      go (on_path r) = path r.above r.here (ap (λ j. j / 2) r.node)
      go (uncle r) = path r.above r.here (ap (λ j. j / 2) r.node ∙ half_sibling (path_node c r.above))

-- a pair of a claim, and what the claim says of it
pub record IsNamedPair (dig : List ℕ → List ℕ) (n : ℕ) (c : Claim) (layer i : ℕ) : Type 0 where
  pub left : List ℕ
  pub right : List ℕ
  pub among : Contains (claimed_pairs dig n c) record { layer = layer; index = i; left = left; right = right }
  pub is : IsPairOf dig c record { layer = layer; index = i; left = left; right = right }

pub pairs_have : {dig : List ℕ → List ℕ} {c : Claim} {layer i : ℕ} {d : List ℕ} (n j : ℕ) → Claims dig c layer i d → layer < top_layer c
    → i < real_width n layer → i / 2 ≡ j → IsNamedPair dig n c layer j
pairs_have {dig} {c} {layer} {i} {d} n j claim low real half =
    let h = rw half at (has_pair dig n c layer i d claim low real) in
    record { left = h.left; right = h.right; among = h.among; is = All-contains (IsPairOf dig c) _ _ (pairs_claimed dig n c) h.among }
