-- What `accept` finds of a claim's pairs is what the definitions say of the claim.
use Rattle.std.proofs.Common.{◌≡◌, ◌≢◌, ℕ, zero, suc, ◌+◌, ◌-◌, ◌*◌, ◌/◌, ◌^◌, ◌<◌, ◌≤◌, ◌⊎◌, inl, inr, Bool, true, false, not, eqb, List, ◌++◌, length, Some, Result, Ok, Err, IfErr, IsErrAnd, refl, sym, ap, ◌∙◌, length-append, arith}
use Rattle.std.specs.List.{All}
use lib.Pointwise.{pointwise}
use Rattle.std.proofs.lemmas.Bool.{cases_lt}
use Rattle.std.proofs.lemmas.List.Elements.{All-contains, All-weaker}
use Rattle.bt_tree.specs.Limits.{max_height}
use Rattle.bt_tree.specs.TreeShape.{real_width, CoversBlock, IsPadding}
use Rattle.bt_tree.specs.Blocks.{IsFileLength}
use Rattle.bt_tree.proofs.TreeShape.{pow_le, height_limit}
use Rattle.bt_tree.proofs.ComparisonTwins.{same_bytes, other_bytes}
use Rattle.bt_tree.proofs.ComparisonClash.{same_parts}
use Rattle.bt_sparse.specs.declared.claim.Claim.{Claim}
use Rattle.bt_sparse.specs.declared.claim.ProofError.{ProofError}
use Rattle.bt_sparse.specs.declared.claim.ProofError.TheVariants.{OutOfMemory}
use Rattle.bt_sparse.specs.declared.expansion.ClaimedPair.{ClaimedPair}
use Rattle.bt_sparse.specs.declared.expansion.Expansion.{Expansion}
use Rattle.bt_sparse.specs.declared.acceptance.Difference.{Difference}
use Rattle.bt_sparse.specs.NodeMap.{Nodes, digest_at}
use Rattle.bt_sparse.specs.SparseTree.{Facts, blocks_of, height, held_at, value_at, IsRooted, IsSound}
use Rattle.bt_sparse.specs.Claim.{Claims, HasShape, run_height, run_node, top_layer, top_node, top_digest}
use Rattle.bt_sparse.specs.Acceptance.{HasPadding, Agrees, IsAcceptable, Accepts, IsHighestClash, IsRefused, no_memory}
use Rattle.bt_sparse.specs.ExpansionSteps.{layer_pairs, covered_count, run_pairs, path_pairs, claimed_pairs, IsPairOf}
use Rattle.bt_sparse.specs.AcceptanceSteps.{IsPairIn, IsPadded, HasNoDifference, IsNotHigher, IsHighestIn, IsAdded, AgreesAt, IsGrownBy, IsExpandedClaim}
use Rattle.bt_sparse.proofs.Halves.{power_split}
use Rattle.bt_sparse.proofs.Values.{value_covers, value_padding, value_inside, cases_node}
use Rattle.bt_sparse.proofs.Claims.{one_digest, pair_of, last_of, which_child, claimed_inside, claim_inside}
use Rattle.bt_sparse.proofs.Covered.{covered_limit, real_next}
use Rattle.bt_sparse.proofs.Differences.{left_value}
use Rattle.bt_sparse.proofs.Expansions.{pairs_claimed, pairs_have}
use Rattle.bt_sparse.proofs.Joins.{keeps_rooted}

-- ---- the pairs lie in the tree
pub pairs_in : (dig : List ℕ → List ℕ) (n h : ℕ) (c : Claim) → HasShape h c → h ≤ max_height → All (IsPairIn h) (claimed_pairs dig n c)
pairs_in dig n h c shape high = All-weaker (IsPairOf dig c) (IsPairIn h) one (claimed_pairs dig n c) (pairs_claimed dig n c)
  where
    one : (p : ClaimedPair) → IsPairOf dig c p → IsPairIn h p
    one p claimed =
        let at = claimed_inside dig h c (p.layer + 1) p.index _ shape claimed.above in
        record {
          low = omega (arith, at.0);
          narrow = at.1;
          high = omega (arith, at.0);
          few = omega (arith, at.1, pow_le (h - (p.layer + 1)) 26 (omega (arith, at.0)));
        }

module _ (dig : List ℕ → List ℕ) (n : ℕ) (c : Claim) where
  layer_pairs_length : (above first count : ℕ) → length (layer_pairs dig c above first count) ≡ count
  unfolding layer_pairs
  layer_pairs_length above first zero = refl
  layer_pairs_length above first (suc count) = simp length-append (omega (arith, layer_pairs_length above first count))

  run_pairs_length : (k : ℕ) → k ≤ run_height c → length (run_pairs dig n c k) + 2 ^ (run_height c - k) ≤ 2 ^ run_height c
  unfolding run_pairs
  run_pairs_length zero low = let flat : run_height c - 0 ≡ run_height c = omega arith in omega (arith, ap (λ k. 2 ^ k) flat)
  run_pairs_length (suc k) low =
      let wide = power_split (run_height c - k) (run_height c - suc k) 1 (omega arith) in
      let in_layer = layer_pairs_length k (run_node c * 2 ^ (run_height c - suc k)) (covered_count n c (suc k)) in
      simp length-append (omega (arith, run_pairs_length k (omega arith), covered_limit n c (suc k)))

  path_pairs_length : (t : ℕ) → length (path_pairs dig c t) ≡ t
  unfolding path_pairs
  path_pairs_length zero = refl
  path_pairs_length (suc t) = simp length-append (omega (arith, path_pairs_length t))

pub pairs_few : (dig : List ℕ → List ℕ) (n h : ℕ) (c : Claim) → HasShape h c → h ≤ max_height → length (claimed_pairs dig n c) < 2 ^ 28
pairs_few dig n h c shape high = simp length-append (omega (
  arith,
  run_pairs_length dig n c (run_height c) (omega arith),
  path_pairs_length dig n c (length c.uncles),
  pow_le (run_height c) 26 (omega (arith, shape.in_height)),
  shape.in_height,
))

-- ---- padding
-- below padding there is padding
pub real_below : (n layer i : ℕ) → real_width n (layer + 1) ≤ i → real_width n layer ≤ 2 * i
real_below n layer i le = omega (arith, real_next n layer)

pub padding_shown : (dig : List ℕ → List ℕ) (k : Facts) (c : Claim) → HasShape (height k) c → HasPadding dig k c
    → All (IsPadded dig (blocks_of k)) (claimed_pairs dig (blocks_of k) c)
padding_shown dig k c shape padding = All-weaker (IsPairOf dig c) (IsPadded dig (blocks_of k)) (λ p claimed. record {
  left = λ past. padding _ _ _ claimed.left record { inside = claim_inside shape claimed.left; past = past };
  right = λ past. padding _ _ _ claimed.right record { inside = claim_inside shape claimed.right; past = past };
}) _ (pairs_claimed dig (blocks_of k) c)

-- ---- no difference
pub agrees : (dig : List ℕ → List ℕ) (k : Facts) (c : Claim) → HasShape (height k) c → IsRooted dig k
    → held_at k (top_layer c) (top_node c) ≡ Some (top_digest dig c) → All (HasNoDifference dig k) (claimed_pairs dig (blocks_of k) c) → Agrees dig k c
agrees dig k c shape rooted top all layer i d e claim held = elim (cases_lt layer (top_layer c)) [
  | inl low ↦
      let pair = pairs_have (blocks_of k) (i / 2) claim low (rooted.covers layer i e held).real refl in
      let parent = rooted.below layer i e held (omega (arith, shape.in_height)) in
      let value = left_value _ _ _ _ _ rooted held in
      let same = All-contains (HasNoDifference dig k) _ _ all pair.among parent.left parent.right parent.left_value parent.right_value in
      elim (which_child pair.is claim) [ inl at ↦ cc (at.0, at.1, same.0) | inr at ↦ cc (at.0, at.1, same.1) ]
  | inr le ↦
      let last = last_of claim le in
      let there : held_at k layer i ≡ Some (top_digest dig c) = rw (last.here, last.node) top in
      cc
]

-- ---- a clash
pub list_cases : (xs ys : List ℕ) → (xs ≡ ys) ⊎ (xs ≢ ys)
list_cases xs ys = go (pointwise eqb xs ys) refl
  where
    go : (r : Bool) → pointwise eqb xs ys ≡ r → (xs ≡ ys) ⊎ (xs ≢ ys)
    go true e = inl (same_bytes xs ys (pointwise eqb xs ys) refl e)
    go false e = inr (other_bytes xs ys (pointwise eqb xs ys) refl e)

module _ (dig : List ℕ → List ℕ) (k : Facts) (c : Claim) (f : Difference) (shape : HasShape (height k) c) (rooted : IsRooted dig k)
    (padding : HasPadding dig k c) (top : held_at k (top_layer c) (top_node c) ≡ Some (top_digest dig c)) (h : IsHighestIn dig k (claimed_pairs dig (blocks_of k) c) f) where
  -- of a node that covers no block the tree and the claim say the padding's digest
  both_padded : (layer i : ℕ) (ours theirs : List ℕ) → Claims dig c layer i theirs → value_at dig k layer i ≡ Some ours
      → real_width (blocks_of k) layer ≤ i → ours ≡ theirs
  both_padded layer i ours theirs claim value past =
      let node : IsPadding (blocks_of k) layer i = record { inside = value_inside _ _ _ _ _ value; past = past } in
      cc (value_padding dig k layer i node, padding layer i theirs claim node)

  -- nothing differs above the highest difference
  highest : (layer i : ℕ) (l r left right : List ℕ) → value_at dig k layer (2 * i) ≡ Some l → value_at dig k layer (2 * i + 1) ≡ Some r
      → Claims dig c layer (2 * i) left → Claims dig c layer (2 * i + 1) right → (l ≢ left) ⊎ (r ≢ right)
      → (layer < f.pair.layer) ⊎ ((layer ≡ f.pair.layer) × (f.pair.index ≤ i))
  highest layer i l r left right knows_left knows_right claims_left claims_right differ = elim (cases_lt layer (top_layer c)) [
    | inl low ↦ elim (cases_lt (2 * i) (real_width (blocks_of k) layer)) [
      | inl covers ↦
          let node = pairs_have (blocks_of k) i claims_left low covers (omega arith) in
          elim (All-contains (λ p. HasNoDifference dig k p ⊎ IsNotHigher p f.pair) _ _ h.highest node.among) [
            | inl none ↦
                let same = none l r knows_left knows_right in
                absurd (elim differ [ inl a ↦ a (same.0 ∙ one_digest node.is.left claims_left) | inr b ↦ b (same.1 ∙ one_digest node.is.right claims_right) ])
            | inr lower ↦ lower
          ]
      | inr past ↦ absurd (elim differ [
        | inl a ↦ a (both_padded _ _ _ _ claims_left knows_left past)
        | inr b ↦ b (both_padded _ _ _ _ claims_right knows_right (omega arith))
      ])
    ]
    | inr le ↦ absurd (omega (arith, (last_of claims_left le).node, (last_of claims_right le).node))
  ]

  claimed : IsPairOf dig c f.pair
  claimed = All-contains (IsPairOf dig c) _ _ (pairs_claimed dig (blocks_of k) c) h.among

  -- a differing node is no padding, so it is held
  differing_held : (i : ℕ) (ours theirs : List ℕ) → Claims dig c f.pair.layer i theirs → value_at dig k f.pair.layer i ≡ Some ours → ours ≢ theirs
      → held_at k f.pair.layer i ≡ Some ours
  differing_held i ours theirs claim value apart = elim (cases_node (blocks_of k) f.pair.layer i (value_inside _ _ _ _ _ value)) [
    | inl covers ↦ sym (value_covers dig k f.pair.layer i covers) ∙ value
    | inr past ↦ absurd (apart (both_padded _ _ _ _ claim value past.past))
  ]

  -- and then the node above is held too
  held : held_at k (f.pair.layer + 1) f.pair.index ≡ Some (dig (f.left ++ f.right))
  held = elim h.differs.differ [
    | inl a ↦ above (2 * f.pair.index) f.left (omega arith) (differing_held _ _ _ claimed.left h.differs.knows_left a)
    | inr b ↦ above (2 * f.pair.index + 1) f.right (omega arith) (differing_held _ _ _ claimed.right h.differs.knows_right b)
  ]
    where
      above : (j : ℕ) (d : List ℕ) → j / 2 ≡ f.pair.index → held_at k f.pair.layer j ≡ Some d
          → held_at k (f.pair.layer + 1) f.pair.index ≡ Some (dig (f.left ++ f.right))
      above j d half at =
          let p = rooted.below f.pair.layer j d at (omega (arith, claimed.low, shape.in_height)) in
          cc (h.differs.knows_left, h.differs.knows_right)

  same_digests : dig (f.left ++ f.right) ≡ dig (f.pair.left ++ f.pair.right)
  same_digests = elim (list_cases (dig (f.left ++ f.right)) (dig (f.pair.left ++ f.pair.right))) [ inl same ↦ same | inr apart ↦ absurd (clashing apart) ]
    where
      clashing : dig (f.left ++ f.right) ≢ dig (f.pair.left ++ f.pair.right) → ⊥
      clashing apart = elim (cases_lt (f.pair.layer + 1) (top_layer c)) [
        | inl under ↦
            let ours = rooted.below (f.pair.layer + 1) f.pair.index _ held (omega (arith, shape.in_height)) in
            let theirs = pair_of claimed.above under in
            let value = left_value _ _ _ _ _ rooted held in
            let differ : (ours.left ≢ theirs.left) ⊎ (ours.right ≢ theirs.right) = elim (which_child theirs.is claimed.above) [
              | inl at ↦ inl (λ same. apart (cc (at.0, at.1, ours.left_value)))
              | inr at ↦ inr (λ same. apart (cc (at.0, at.1, ours.right_value)))
            ] in
            elim (highest _ _ _ _ _ _ ours.left_value ours.right_value theirs.is.left theirs.is.right differ) [
              | inl less ↦ omega (arith, less)
              | inr level ↦ omega (arith, level.0)
            ]
        | inr le ↦
            let last = last_of claimed.above le in
            let there : held_at k (f.pair.layer + 1) f.pair.index ≡ Some (top_digest dig c) = rw (last.here, last.node) top in
            apart (cc (held, last.digest))
      ]

  pub is_clash : length f.left ≡ 32 → length f.pair.left ≡ 32
      → IsHighestClash dig k c (f.pair.layer + 1) f.pair.index (f.left ++ f.right) (f.pair.left ++ f.pair.right)
  is_clash ours theirs = record {
    differs = record {
      below = f.pair.layer;
      above = refl;
      our_left = f.left;
      our_right = f.right;
      their_left = f.pair.left;
      their_right = f.pair.right;
      knows_left = h.differs.knows_left;
      knows_right = h.differs.knows_right;
      claims_left = claimed.left;
      claims_right = claimed.right;
      is_ours = refl;
      is_theirs = refl;
      differ = h.differs.differ;
    };
    inputs = λ same.
        let parts = same_parts f.left f.pair.left f.right f.pair.right (ours ∙ sym theirs) same in
        elim h.differs.differ [ inl a ↦ a parts.0 | inr b ↦ b parts.1 ];
    digests = same_digests;
    highest = λ l j o t d. elim (highest _ _ _ _ _ _ d.knows_left d.knows_right d.claims_left d.claims_right d.differ) [
      | inl less ↦ inl (omega (arith, d.above, less))
      | inr level ↦ inr (omega (arith, d.above, level.0), level.1)
    ];
  }

-- ---- what is known after it
-- to the held nodes, the pairs of the claim were added
abbrev Grows : (List ℕ → List ℕ) → Facts → Claim → Nodes → ℕ → Type 0
Grows dig k c nodes count = IsGrownBy dig c (blocks_of k) k.nodes nodes count (claimed_pairs dig (blocks_of k) c)

-- the same tree with these nodes
abbrev with_nodes : Facts → Nodes → Facts
with_nodes k nodes = record { file_length = k.file_length; root = k.root; nodes = nodes }

pub grown_accepts : (dig : List ℕ → List ℕ) (k : Facts) (c : Claim) (nodes : Nodes) (count : ℕ) → IsAcceptable dig k c → Grows dig k c nodes count
    → Accepts dig k c (with_nodes k nodes)
grown_accepts dig k c nodes count accepts h = record {
  conditions = accepts;
  joins = record {
    file_length = refl;
    root = refl;
    kept = h.grown.kept;
    added = added;
    only = λ layer i d held. elim (h.grown.only layer i d held) [
      | inl was ↦ inl was
      | inr came ↦ inr (came.0, record { inside = claim_inside accepts.shape came.0; real = came.1 })
    ];
  };
}
  where
    added : (layer i : ℕ) (d : List ℕ) → Claims dig c layer i d → CoversBlock (blocks_of k) layer i → digest_at nodes layer i ≡ Some d
    added layer i d claim covers = elim (cases_lt layer (top_layer c)) [
      | inl low ↦
          let pair = pairs_have (blocks_of k) (i / 2) claim low covers.real refl in
          let put = All-contains (IsAdded (blocks_of k) nodes) _ _ h.added pair.among in
          elim (which_child pair.is claim) [
            | inl at ↦ cc (at.0, at.1, put.left (rw at.0 covers.real))
            | inr at ↦ cc (at.0, at.1, put.right (rw at.0 covers.real))
          ]
      | inr le ↦ let last = last_of claim le in rw last.digest (h.grown.kept layer i _ (rw (last.here, last.node) accepts.top))
    ]

-- what `!=` of two digests says
not_is : (a b : Bool) → not b ≡ a → b ≡ not a
not_is a true e = ap not e
not_is a false e = ap not e

pub apart_bytes : (xs ys : List ℕ) (r : Bool) → r ≡ not (pointwise eqb xs ys) → r ≡ true → xs ≢ ys
apart_bytes xs ys r e holds = other_bytes xs ys _ refl (not_is true _ (sym e ∙ holds))

pub equal_bytes : (xs ys : List ℕ) (r : Bool) → r ≡ not (pointwise eqb xs ys) → r ≡ false → xs ≡ ys
equal_bytes xs ys r e fails = same_bytes xs ys _ refl (not_is false _ (sym e ∙ fails))

-- the pairs of a claim that was checked were put
pub grown_all : (dig : List ℕ → List ℕ) (k : Facts) (c : Claim) (e : Expansion) (blocks : ℕ) (mid old new : Nodes) (count : ℕ) (pairs : List ClaimedPair)
    → IsExpandedClaim dig k c e → blocks ≡ blocks_of k → mid ≡ old → old ≡ k.nodes → pairs ≡ e.pairs.items
    → ((a : Claim) → All (IsPairOf dig a) pairs → AgreesAt dig mid a → IsGrownBy dig a blocks mid new count pairs)
    → Grows dig k c new count
grown_all dig k c e blocks mid old new count pairs h same kept start list put =
    let all : pairs ≡ claimed_pairs dig (blocks_of k) c = list ∙ h.expansion.pairs in
    rw (← all, ← same, ← start, ← kept) (put c (rw all (pairs_claimed dig (blocks_of k) c)) (rw (kept, start) h.conditions.agrees))

pub grown_sound : (dig : List ℕ → List ℕ) (k : Facts) (c : Claim) (nodes : Nodes) (count : ℕ) → IsSound dig k → IsAcceptable dig k c → Grows dig k c nodes count
    → IsSound dig (with_nodes k nodes)
grown_sound dig k c nodes count sound h grown = record {
  lawful = sound.lawful;
  rooted = keeps_rooted dig k _ c (grown_accepts dig k c nodes count h grown) sound.rooted;
  digests = grown.grown.sizes sound.digests;
}

pub lawful_height : (k : Facts) → IsFileLength k.file_length → height k ≤ max_height
lawful_height k lawful = height_limit (blocks_of k) (omega (arith, lawful.limit))

-- out of memory, where the shape is right
pub refused_memory : {A : Type 0} → (dig : List ℕ → List ℕ) (k : Facts) (c : Claim) (r : Result A ProofError) → IsErrAnd r (λ e. e ≡ OutOfMemory)
    → HasShape (height k) c → IfErr r (IsRefused dig k c)
refused_memory dig k c (Ok a) e shape = absurd e
refused_memory dig k c (Err f) e shape = rw e (no_memory shape)
