-- The nodes of a claim lie in the tree, in pairs of siblings below their parent, but for the last.
use Rattle.std.proofs.Common.{◌≡◌, ℕ, suc, ◌+◌, ◌-◌, ◌*◌, ◌/◌, ◌%◌, ◌^◌, ◌<◌, ◌≤◌, ◌⊎◌, inl, inr, List, [], length, get_or, refl, sym, ap, ◌∙◌, arith}
use Rattle.std.proofs.Math.Nat.{pow-suc, div-div-eq-div-mul}
use Rattle.std.proofs.lemmas.Nat.{pow_pos, div_below, div-add-mod'}
use Rattle.std.proofs.lemmas.Bool.{cases_lt}
use Rattle.bt_tree.specs.TreeShape.{height_of, IsInside}
use Rattle.bt_tree.specs.Peaks.{row_node}
use Rattle.bt_tree.proofs.TreeNodes.{row_parent}
use Rattle.bt_sparse.specs.declared.claim.Claim.{Claim}
use Rattle.bt_sparse.specs.Claim.{Claims, in_run, on_path, uncle, run_height, run_top, run_node, run_digest, path_node, path_digest, sibling_of, top_layer, top_node, top_digest, HasShape}
use Rattle.bt_sparse.specs.ExpansionSteps.{run_pair, path_pair, IsPairOf}
use Rattle.bt_sparse.proofs.Halves.{parity, half_div, power_split, below_times}
use Rattle.bt_sparse.proofs.Single.{claims_one}

pub double_div : (i j n : ℕ) → i / 2 ≡ j → i / 2 ^ suc n ≡ j / 2 ^ n
double_div i j n e = half_div i n ∙ ap (λ h. h / 2 ^ n) e

-- the same node above, from a layer and from the next one
pub half_below : (top above i j : ℕ) → above < top → j / 2 ≡ i → j / 2 ^ (top - above) ≡ i / 2 ^ (top - suc above)
half_below top above i j low half = let up : top - above ≡ suc (top - suc above) = omega arith in ap (λ n. j / 2 ^ n) up ∙ double_div j i (top - suc above) half

pub one_digest : {dig : List ℕ → List ℕ} {c : Claim} {layer i : ℕ} {d e : List ℕ} → Claims dig c layer i d → Claims dig c layer i e → d ≡ e
one_digest = claims_one _ _ _ _ _ _

pub path_suc : (c : Claim) (t : ℕ) → path_node c t / 2 ≡ path_node c (suc t)
path_suc c t = div-div-eq-div-mul (run_node c) (2 ^ t) 2 ∙ ap (λ p. run_node c / p) (sym (pow-suc 2 t))

pub half_sibling : (e : ℕ) → sibling_of e / 2 ≡ e / 2
half_sibling e = elim (parity e) [
  | inl p ↦ rw p.1 (let same : (e + 1) / 2 ≡ e / 2 = omega (arith, p.0) in same)
  | inr p ↦ rw p.1 (let same : (e - 1) / 2 ≡ e / 2 = omega (arith, p.0) in same)
]

-- a run begins at a multiple of its length
pub shape_start : {h : ℕ} {c : Claim} → HasShape h c → c.index ≡ run_node c * 2 ^ run_height c
shape_start {h} {c} shape = omega (arith, div-add-mod' c.index (2 ^ run_height c), ap (λ n. c.index % n) (sym shape.power) ∙ shape.aligned)

-- ---- both children of a node, and the node
module _ (dig : List ℕ → List ℕ) (c : Claim) where
  pub run_pair_claimed : (above i : ℕ) → above < run_height c → i / 2 ^ (run_height c - suc above) ≡ run_node c → IsPairOf dig c (run_pair dig c above i)
  run_pair_claimed above i low under = record {
    left = child (2 * i) (omega arith);
    right = child (2 * i + 1) (omega arith);
    above = in_run record { above = suc above; here = omega arith; low = low; under = under; digest = row_parent dig (run_digest c) above i _ _ refl refl };
    low = omega arith;
  }
    where
      child : (j : ℕ) → j / 2 ≡ i → Claims dig c (c.base + above) j (row_node dig (run_digest c) above j)
      child j half =
          in_run record { above = above; here = refl; low = omega arith; under = half_below (run_height c) above i j low half ∙ under; digest = refl }

  pub path_pair_claimed : (t : ℕ) → t < length c.uncles → IsPairOf dig c (path_pair dig c t)
  unfolding path_digest
  path_pair_claimed t within = elim (parity (path_node c t)) [
    | inl p ↦ rw p.1 record {
      left = own _ (omega (arith, p.0));
      right = beside _ (rw p.1 (let same : 2 * (path_node c t / 2) + 1 ≡ path_node c t + 1 = omega (arith, p.0) in same));
      above = on_path record { above = suc t; here = omega arith; within = within; node = path_suc c t; digest = rw p.1 refl };
      low = omega arith;
    }
    | inr p ↦ rw p.1 record {
      left = beside _ (rw p.1 (let same : 2 * (path_node c t / 2) ≡ path_node c t - 1 = omega (arith, p.0) in same));
      right = own _ (omega (arith, p.0));
      above = on_path record { above = suc t; here = omega arith; within = within; node = path_suc c t; digest = rw p.1 refl };
      low = omega arith;
    }
  ]
    where
      own : (i : ℕ) → i ≡ path_node c t → Claims dig c (run_top c + t) i (path_digest dig c t)
      own i node = on_path record { above = t; here = refl; within = omega arith; node = node; digest = refl }

      beside : (i : ℕ) → i ≡ sibling_of (path_node c t) → Claims dig c (run_top c + t) i (get_or c.uncles t [])
      beside i node = uncle record { above = t; here = refl; within = within; node = node; digest = refl }

  pub top_claim : Claims dig c (top_layer c) (top_node c) (top_digest dig c)
  top_claim = on_path record { above = length c.uncles; here = refl; within = omega arith; node = refl; digest = refl }

pub at_top : (c : Claim) (k i : ℕ) → run_height c ≤ k → k ≤ run_height c → i / 2 ^ (run_height c - k) ≡ run_node c → i ≡ run_node c / 2 ^ 0
at_top c k i le ge under =
    let none : run_height c - k ≡ 0 = omega arith in
    let same : i / 1 ≡ run_node c = ap (λ n. i / 2 ^ n) (sym none) ∙ under in
    omega (arith, same)

pub record IsClaimedPair (dig : List ℕ → List ℕ) (c : Claim) (layer i : ℕ) : Type 0 where
  pub left : List ℕ
  pub right : List ℕ
  pub is : IsPairOf dig c record { layer = layer; index = i; left = left; right = right }

-- a claimed node but the last of the path has a claimed sibling and parent
pub pair_of : {dig : List ℕ → List ℕ} {c : Claim} {layer i : ℕ} {d : List ℕ} → Claims dig c layer i d → layer < top_layer c → IsClaimedPair dig c layer (i / 2)
pair_of {dig} {c} {layer} {i} claim low = go claim
  where
    path : (t : ℕ) → layer ≡ run_top c + t → i / 2 ≡ path_node c t / 2 → IsClaimedPair dig c layer (i / 2)
    path t here half = rw (here, half) record { left = _; right = _; is = path_pair_claimed dig c t (omega arith) }

    go : {d : List ℕ} → Claims dig c layer i d → IsClaimedPair dig c layer (i / 2)
    go (in_run h) = elim (cases_lt h.above (run_height c)) [
      | inl lt ↦
          let under = sym (half_below (run_height c) h.above (i / 2) i lt refl) ∙ h.under in
          rw h.here record { left = _; right = _; is = run_pair_claimed dig c h.above (i / 2) lt under }
      | inr le ↦ path 0 (omega (arith, h.here, h.low)) (ap (λ j. j / 2) (at_top c h.above i le h.low h.under))
    ]
    go (on_path h) = path h.above h.here (ap (λ j. j / 2) h.node)
    go (uncle h) = path h.above h.here (ap (λ j. j / 2) h.node ∙ half_sibling (path_node c h.above))

-- and no node is claimed above it
pub record IsTop (dig : List ℕ → List ℕ) (c : Claim) (layer i : ℕ) (d : List ℕ) : Type 0 where
  pub here : layer ≡ top_layer c
  pub node : i ≡ top_node c
  pub digest : d ≡ top_digest dig c

pub last_of : {dig : List ℕ → List ℕ} {c : Claim} {layer i : ℕ} {d : List ℕ} → Claims dig c layer i d → top_layer c ≤ layer → IsTop dig c layer i d
last_of {dig} {c} {layer} {i} {d} claim high =
    let at = go claim in
    record { here = at.0; node = at.1; digest = one_digest (rw (at.0, at.1) at claim) (top_claim dig c) }
  where
    go : Claims dig c layer i d → (layer ≡ top_layer c) × (i ≡ top_node c)
    go (in_run h) =
        let none : length c.uncles ≡ 0 = omega (arith, h.here, h.low) in
        (omega (arith, h.here, h.low), at_top c h.above i (omega (arith, h.here, h.low)) h.low h.under ∙ ap (path_node c) (sym none))
    go (on_path h) = let all : h.above ≡ length c.uncles = omega (arith, h.here, h.within) in (omega (arith, h.here, all), h.node ∙ ap (path_node c) all)
    go (uncle h) = absurd (omega (arith, h.here, h.within))

-- ---- the claimed nodes lie in the tree
node_in : (h : ℕ) (c : Claim) → HasShape h c → run_node c < 2 ^ (h - run_top c)
node_in h c shape =
    let room = power_split (h - c.base) (h - run_top c) (run_height c) (omega (arith, shape.in_height)) in
    div_below c.index (2 ^ run_height c) (2 ^ (h - run_top c)) (pow_pos (run_height c)) (omega (arith, shape.in_width, shape.some, room))

path_in : (h : ℕ) (c : Claim) (t : ℕ) → HasShape h c → t ≤ length c.uncles → path_node c t < 2 ^ (h - (run_top c + t))
path_in h c t shape within =
    let room = power_split (h - run_top c) (h - (run_top c + t)) t (omega (arith, shape.in_height)) in
    div_below (run_node c) (2 ^ t) (2 ^ (h - (run_top c + t))) (pow_pos t) (omega (arith, node_in h c shape, room))

pub claimed_inside : (dig : List ℕ → List ℕ) (h : ℕ) (c : Claim) (layer i : ℕ) (d : List ℕ) → HasShape h c → Claims dig c layer i d
    → (layer ≤ h) × (i < 2 ^ (h - layer))
claimed_inside dig h c layer i d shape (in_run r) =
    let power : 2 ^ (h - layer) ≡ 2 ^ (h - run_top c) * 2 ^ (run_height c - r.above) =
    power_split (h - layer) (h - run_top c) (run_height c - r.above) (omega (arith, shape.in_height, r.here, r.low)) in
    let below : i / 2 ^ (run_height c - r.above) < 2 ^ (h - run_top c) = rw r.under (node_in h c shape) in
    (omega (arith, shape.in_height, r.here, r.low), rw power (below_times i _ _ (pow_pos (run_height c - r.above)) below))
claimed_inside dig h c layer i d shape (on_path r) =
    (omega (arith, shape.in_height, r.here, r.within), rw (r.here, r.node) (path_in h c r.above shape r.within))
claimed_inside dig h c layer i d shape (uncle r) =
    let even = power_split (h - (run_top c + r.above)) (h - (run_top c + r.above) - 1) 1 (omega (arith, shape.in_height, r.within)) in
    let beside = path_in h c r.above shape (omega (arith, r.within)) in (
      omega (arith, shape.in_height, r.here, r.within),
      rw (r.here, r.node) (elim (parity (path_node c r.above)) [
        | inl p ↦ rw p.1 (omega (arith, p.0, even, beside))
        | inr p ↦ rw p.1 (omega (arith, p.0, even, beside))
      ]),
    )

pub claim_inside : {dig : List ℕ → List ℕ} {n : ℕ} {c : Claim} {layer i : ℕ} {d : List ℕ} → HasShape (height_of n) c → Claims dig c layer i d
    → IsInside n layer i
claim_inside shape claim = let at = claimed_inside _ _ _ _ _ _ shape claim in record { in_height = at.0; in_width = at.1 }

-- a claimed node is the left one or the right one of its pair
pub which_child : {dig : List ℕ → List ℕ} {c : Claim} {layer i : ℕ} {d left right : List ℕ}
    → IsPairOf dig c record { layer = layer; index = i / 2; left = left; right = right } → Claims dig c layer i d
    → ((2 * (i / 2) ≡ i) × (d ≡ left)) ⊎ ((2 * (i / 2) + 1 ≡ i) × (d ≡ right))
which_child {i = i} pair claim = elim (parity i) [
  | inl p ↦ let same : 2 * (i / 2) ≡ i = omega (arith, p.0) in inl (same, one_digest claim (rw same at pair.left))
  | inr p ↦ let same : 2 * (i / 2) + 1 ≡ i = omega (arith, p.0) in inr (same, one_digest claim (rw same at pair.right))
]
