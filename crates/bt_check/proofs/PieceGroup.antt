-- The group that is adopted is a piece, where the tree holds the layer of the pieces and nothing below it; and the claim
-- of its blocks' digests is accepted exactly where they have the piece's digest together.
use Rattle.std.proofs.Common.{◌≡◌, ◌≢◌, ℕ, zero, suc, ◌+◌, ◌-◌, ◌*◌, ◌/◌, ◌%◌, ◌^◌, ◌<◌, ◌≤◌, true≢false, is_some, Option, None, Some, IsSome, List, [], ◌++◌, length, get_or, inl, inr, arith, refl, sym, ap, ◌∙◌, subst, min}
use Rattle.std.specs.Prelude.{slice_index_or}
use Rattle.std.proofs.Math.Nat.{mul-le-mul_right, mul-div_cancel, mul-mod_left, div-lt_iff_lt-mul, le-div_iff_mul-le}
use Rattle.std.proofs.lemmas.Nat.{pow_pos, pow-add, pow_below, div-mul-add}
use Rattle.std.proofs.lemmas.Bool.{cases_lt}
use Rattle.sha2.specs.Sha256.{sha256}
use Rattle.bt_tree.specs.Blocks.{block_count}
use Rattle.bt_tree.specs.Layers.{fold_of}
use Rattle.bt_tree.specs.Peaks.{row_node}
use Rattle.bt_tree.specs.Tree.{padding_digest}
use Rattle.bt_tree.specs.TreeShape.{height_of, real_width}
use Rattle.bt_tree.proofs.TreeShape.{height_is, real_limit, pow_le}
use Rattle.bt_tree.proofs.TreeNodes.{row_node_same, row_node_shift, fold_is, padding_suc}
use Rattle.bt_sparse.specs.SparseTree.{Facts, blocks_of, height, held_at, value_at}
use Rattle.bt_sparse.specs.Claim.{Claims, HasShape, in_run, on_path, uncle, run_height, run_node, run_digest, path_digest, top_layer, top_node, top_digest}
use Rattle.bt_sparse.specs.Acceptance.{Accepts, IsRefused, HasPadding, IsHighestClash, shape, padding, no_anchor, top_differs, clash, no_memory}
use Rattle.bt_sparse.specs.declared.claim.ProofError.{ProofError}
use Rattle.bt_sparse.specs.declared.claim.ProofError.TheVariants.{OutOfMemory}
use Rattle.bt_sparse.proofs.Values.{same_value, none_some, value_covers, value_padding, cases_node, value_inside}
use Rattle.bt_sparse.proofs.Expansions.{path_first}
use Rattle.bt_store.specs.Adoption.{IsUnknownGroup, leaf_claim}
use Rattle.bt_check.specs.Finding.{KnownLayer}
use Rattle.bt_check.specs.CheckSteps.{IsBare}
use Rattle.bt_check.proofs.PiecesNode.{covers, real_index, width_covers}
use Rattle.bt_tree.proofs.LayerNodes.{row_zero}

-- The layer is held whole, and nothing below a piece.
pub record IsReady (n : ℕ) (known : KnownLayer) (piece : ℕ) (k : Facts) : Type 0 where
  pub length_is : k.file_length ≡ n
  pub inside : known.layer ≤ height_of (block_count n)
  pub width : length known.digests ≡ real_width (block_count n) known.layer
  pub holds : (i : ℕ) → i < length known.digests → held_at k known.layer i ≡ Some (slice_index_or known.digests i [])
  pub bare : IsBare known piece k

-- a block of a piece is a block of the file
pub piece_is_real : (n pieces : ℕ) (known : KnownLayer) → length known.digests ≡ real_width (block_count n) known.layer
    → pieces * 2 ^ known.layer < block_count n → pieces < length known.digests
piece_is_real n pieces known width real = elim (cases_lt pieces (length known.digests)) [
  | inl lt ↦ lt
  | inr le ↦
      let all = width_covers (block_count n) known.layer in
      let far = mul-le-mul_right {m = length known.digests} {n = pieces} (2 ^ known.layer) le in
      absurd (omega (arith, far, real, subst (λ w. block_count n ≤ w * 2 ^ known.layer) (sym width) all))
]

pub height_of_power : (layer : ℕ) → height_of (2 ^ layer) ≡ layer
height_of_power layer =
    let is = height_is (2 ^ layer) in
    let enough = is.enough in
    let high = is.least layer (omega arith) in
    elim (cases_lt (height_of (2 ^ layer)) layer) [
      | inl lt ↦ let less = pow_below (height_of (2 ^ layer)) layer lt in absurd (omega (arith, enough, less))
      | inr le ↦ omega (arith, high, le)
    ]

power_split : (a b : ℕ) → b ≤ a → 2 ^ a ≡ 2 ^ (a - b) * 2 ^ b
power_split a b le = let e : a ≡ (a - b) + b = omega (arith, le) in ap (λ m. 2 ^ m) e ∙ pow-add 2 (a - b) b

-- ---- the group is the piece

pub record IsPieceGroup (n : ℕ) (known : KnownLayer) (from anchor first count : ℕ) : Type 0 where
  pub anchor_is : anchor ≡ known.layer
  pub first_is : first ≡ from
  pub count_is : count ≡ min (2 ^ known.layer) (block_count n - from)

module _ (n : ℕ) (known : KnownLayer) (k : Facts) (pieces from : ℕ) (ready : IsReady n known pieces k) (place : from ≡ pieces * 2 ^ known.layer)
    (real : from < block_count n) where
  index_is : from / 2 ^ known.layer ≡ pieces
  index_is = ap (λ m. m / 2 ^ known.layer) place ∙ mul-div_cancel pieces (pow_pos known.layer)

  inside : pieces < length known.digests
  inside = piece_is_real n pieces known ready.width (subst (λ m. m < block_count n) place real)

  not_lower : (anchor : ℕ) → anchor < known.layer → IsSome (held_at k anchor (from / 2 ^ anchor)) → ⊥
  not_lower anchor low held =
      let split = power_split known.layer anchor (omega (arith, low)) in
      let whole : from ≡ pieces * 2 ^ (known.layer - anchor) * 2 ^ anchor = place ∙ ap (λ p. pieces * p) split ∙ omega arith in
      let node : from / 2 ^ anchor ≡ pieces * 2 ^ (known.layer - anchor) =
      ap (λ m. m / 2 ^ anchor) whole ∙ mul-div_cancel (pieces * 2 ^ (known.layer - anchor)) (pow_pos anchor) in
      let back : from / 2 ^ anchor * 2 ^ anchor ≡ from = ap (λ m. m * 2 ^ anchor) node ∙ sym whole in
      let none = ready.bare anchor (from / 2 ^ anchor) low (omega (arith, back, place)) (omega (arith, back, place, pow_pos known.layer)) in
      true≢false (sym held ∙ ap (λ o. is_some o) none)

  not_higher : (anchor : ℕ) → known.layer < anchor → ((layer : ℕ) → layer < anchor → held_at k layer (from / 2 ^ layer) ≡ None) → ⊥
  not_higher anchor high nearest =
      none_some _ (sym (nearest known.layer high) ∙ ap (held_at k known.layer) index_is ∙ ready.holds pieces inside)

  pub group_is_piece : (anchor first count : ℕ) → IsUnknownGroup k from anchor first count → IsPieceGroup n known from anchor first count
  group_is_piece anchor first count group =
      let same : anchor ≡ known.layer = elim (cases_lt anchor known.layer) [
        | inl lt ↦ absurd (not_lower anchor lt group.nearest.held)
        | inr le ↦ elim (cases_lt known.layer anchor) [ inl lt ↦ absurd (not_higher anchor lt group.nearest.nearest) | inr ge ↦ omega (arith, le, ge) ]
      ] in
      let begins : first ≡ from =
      group.starts ∙ ap (λ a. from / 2 ^ a * 2 ^ a) same ∙ ap (λ m. m * 2 ^ known.layer) index_is ∙ sym place in
      record {
        anchor_is = same;
        first_is = begins;
        count_is = group.counts ∙ ap (λ a. min (2 ^ a) (blocks_of k - first)) same
            ∙ ap (λ m. min (2 ^ known.layer) (block_count m - first)) ready.length_is ∙ ap (λ m. min (2 ^ known.layer) (block_count n - m)) begins;
      }

-- ---- the claim of its blocks' digests

-- a node over padding
padding_over : (k j : ℕ) → row_node sha256 (λ i. padding_digest sha256 0) k j ≡ padding_digest sha256 k
unfolding row_node
padding_over zero j = refl
padding_over (suc k) j =
    ap (λ d. sha256 (d ++ row_node sha256 (λ i. padding_digest sha256 0) k (2 * j + 1))) (padding_over k (2 * j))
    ∙ ap (λ d. sha256 (padding_digest sha256 k ++ d)) (padding_over k (2 * j + 1)) ∙ padding_suc sha256 k

-- these are the digests of a piece, from the leaf `from` on: with padding after the last block of the file
pub record ArePieceLeaves (n : ℕ) (known : KnownLayer) (from : ℕ) (leaves : List (List ℕ)) : Type 0 where
  pub all : length leaves ≡ 2 ^ known.layer
  pub past : (i : ℕ) → block_count n ≤ from + i → i < 2 ^ known.layer → get_or leaves i [] ≡ padding_digest sha256 0

module _ (n : ℕ) (known : KnownLayer) (k : Facts) (pieces from : ℕ) (ready : IsReady n known pieces k) (place : from ≡ pieces * 2 ^ known.layer)
    (real : from < block_count n) (leaves : List (List ℕ)) (are : ArePieceLeaves n known from leaves) where
  tall : run_height (leaf_claim from leaves) ≡ known.layer
  tall = ap height_of are.all ∙ height_of_power known.layer

  node_is : run_node (leaf_claim from leaves) ≡ pieces
  node_is = ap (λ h. from / 2 ^ h) tall ∙ index_is n known k pieces from ready place real

  top_layer_is : top_layer (leaf_claim from leaves) ≡ known.layer
  top_layer_is = omega (arith, tall)

  top_node_is : top_node (leaf_claim from leaves) ≡ pieces
  top_node_is = omega (arith, node_is)

  digest_from : (j : ℕ) → run_digest (leaf_claim from leaves) (from + j) ≡ get_or leaves j []
  digest_from j = ap (λ i. get_or leaves i []) (omega arith)

  pub top_digest_is : top_digest sha256 (leaf_claim from leaves) ≡ fold_of sha256 known.layer leaves
  top_digest_is =
      let c = leaf_claim from leaves in
      let here : pieces + 0 ≡ pieces = omega arith in
      path_first sha256 c ∙ ap (λ h. row_node sha256 (run_digest c) h (run_node c)) tall ∙ ap (row_node sha256 (run_digest c) known.layer) (node_is ∙ sym here)
      ∙ sym (row_node_shift sha256 (run_digest c) known.layer pieces from 0 place)
      ∙ row_node_same sha256 (λ j. run_digest c (from + j)) (λ j. get_or leaves j []) known.layer 0 (λ j low high. digest_from j)
      ∙ sym (fold_is sha256 known.layer leaves)

  pub held_top : held_at k (top_layer (leaf_claim from leaves)) (top_node (leaf_claim from leaves)) ≡ Some (slice_index_or known.digests pieces [])
  held_top = ap (λ l. held_at k l (top_node (leaf_claim from leaves))) top_layer_is ∙ ap (held_at k known.layer) top_node_is
      ∙ ready.holds pieces (inside n known k pieces from ready place real)

  -- the nodes that the claim names lie below the piece
  pub record IsBelow (layer i : ℕ) (d : List ℕ) : Type 0 where
    pub low : layer ≤ known.layer
    pub first : from ≤ i * 2 ^ layer
    pub last : (i + 1) * 2 ^ layer ≤ from + 2 ^ known.layer
    pub digest : d ≡ row_node sha256 (run_digest (leaf_claim from leaves)) layer i

  pub claimed_below : (layer i : ℕ) (d : List ℕ) → Claims sha256 (leaf_claim from leaves) layer i d → IsBelow layer i d
  claimed_below layer i d (in_run r) =
      let low : r.above ≤ known.layer = omega (arith, r.low, tall) in
      let split = power_split known.layer r.above low in
      let span : ℕ = 2 ^ (known.layer - r.above) in
      let some : 0 < span = pow_pos (known.layer - r.above) in
      let under : i / span ≡ pieces = ap (λ h. i / 2 ^ (h - r.above)) (sym tall) ∙ r.under ∙ node_is in
      let front : pieces * span ≤ i = (le-div_iff_mul-le {k = span} {x = pieces} {y = i} some).0 (omega (arith, under)) in
      let back : i < (pieces + 1) * span = (div-lt_iff_lt-mul {k = span} {x = i} {y = pieces + 1} some).0 (omega (arith, under)) in
      let begins = mul-le-mul_right {m = pieces * span} {n = i} (2 ^ r.above) front in
      let ends = mul-le-mul_right {m = i + 1} {n = (pieces + 1) * span} (2 ^ r.above) (omega (arith, back)) in
      let here : layer ≡ r.above = r.here ∙ omega arith in
      let whole : pieces * span * 2 ^ r.above ≡ from = omega (arith, split, place, ap (λ p. pieces * p) split) in
      let next : (pieces + 1) * span * 2 ^ r.above ≡ from + 2 ^ known.layer = omega (arith, split, whole) in
      record {
        low = omega (arith, here, low);
        first = rw here (omega (arith, begins, whole));
        last = rw here (omega (arith, ends, next));
        digest = rw here r.digest;
      }
  claimed_below layer i d (on_path r) =
      let none : r.above ≡ 0 = omega (arith, r.within) in
      let here : layer ≡ known.layer = r.here ∙ omega (arith, tall, none) in
      let node : i ≡ pieces = r.node ∙ ap (λ a. run_node (leaf_claim from leaves) / 2 ^ a) none ∙ omega (arith, node_is) in
      record {
        low = omega (arith, here);
        first = rw (here, node) (omega (arith, place));
        last = rw (here, node) (omega (arith, place));
        digest = r.digest ∙ ap (λ a. path_digest sha256 (leaf_claim from leaves) a) none ∙ path_first sha256 (leaf_claim from leaves)
            ∙ ap (λ h. row_node sha256 (run_digest (leaf_claim from leaves)) h (run_node (leaf_claim from leaves))) (tall ∙ sym here)
            ∙ ap (row_node sha256 (run_digest (leaf_claim from leaves)) layer) (node_is ∙ sym node);
      }
  claimed_below layer i d (uncle r) = absurd (omega (arith, r.within))

  -- where they cover no block they have the padding's digest
  below_padding : (layer i : ℕ) (d : List ℕ) → IsBelow layer i d → block_count n ≤ i * 2 ^ layer → d ≡ padding_digest sha256 layer
  below_padding layer i d b past =
      let first = b.first in
      let last = b.last in
      b.digest ∙ row_node_same sha256 (run_digest (leaf_claim from leaves)) (λ j. padding_digest sha256 0) layer i (λ j low high.
      are.past (j - from) (omega (arith, past, low, first)) (omega (arith, low, high, first, last))) ∙ padding_over layer i

  real_below : (layer i : ℕ) → real_width (block_count n) layer ≤ i → block_count n ≤ i * 2 ^ layer
  real_below layer i past =
      let all = width_covers (block_count n) layer in
      let far = mul-le-mul_right {m = real_width (block_count n) layer} {n = i} (2 ^ layer) past in
      omega (arith, all, far)

  pub has_padding : HasPadding sha256 k (leaf_claim from leaves)
  has_padding layer i d claims is =
      below_padding layer i d (claimed_below layer i d claims)
      (real_below layer i (subst (λ m. real_width (block_count m) layer ≤ i) ready.length_is is.past))

  -- what is known of a node below the piece is what the claim says
  known_below : (layer i : ℕ) (d e : List ℕ) → layer < known.layer → Claims sha256 (leaf_claim from leaves) layer i d → value_at sha256 k layer i ≡ Some e → e ≡ d
  known_below layer i d e low claims value =
      let b = claimed_below layer i d claims in
      elim (cases_node (blocks_of k) layer i (value_inside sha256 k layer i e value)) [
        | inl covers ↦ absurd (none_some e (sym (ready.bare layer i low (omega (arith, b.first, place)) (omega (arith, b.last, place, pow_pos layer))) ∙ sym (value_covers sha256 k layer i covers) ∙ value))
        | inr is ↦
            same_value (value_at sha256 k layer i) e (padding_digest sha256 layer) value (value_padding sha256 k layer i is)
            ∙ sym (has_padding layer i d claims is)
      ]

  has_shape : 0 < known.layer → HasShape (height k) (leaf_claim from leaves)
  has_shape above =
      let some = pow_le 1 known.layer above in
      let limit = real_limit (block_count n) known.layer ready.inside in
      let within : pieces + 1 ≤ 2 ^ (height_of (block_count n) - known.layer) =
      omega (arith, inside n known k pieces from ready place real, ready.width, limit) in
      let split = power_split (height_of (block_count n)) known.layer ready.inside in
      let far = mul-le-mul_right {m = pieces + 1} {n = 2 ^ (height_of (block_count n) - known.layer)} (2 ^ known.layer) within in
      let tall_is : height k ≡ height_of (block_count n) = ap (λ m. height_of (block_count m)) ready.length_is in
      let wide : 2 ^ (height k - 0) ≡ 2 ^ height_of (block_count n) = ap (λ h. 2 ^ h) (omega (arith, tall_is)) in
      record {
        some = omega (arith, are.all, some);
        power = are.all ∙ ap (λ h. 2 ^ h) (sym tall);
        aligned = ap (λ m. from % m) are.all ∙ ap (λ m. m % 2 ^ known.layer) place ∙ mul-mod_left pieces (2 ^ known.layer);
        in_width = omega (arith, are.all, wide, split, far, place);
        in_height = omega (arith, top_layer_is, tall_is, ready.inside);
      }

  no_clash : (layer i : ℕ) (ours theirs : List ℕ) → IsHighestClash sha256 k (leaf_claim from leaves) layer i ours theirs → ⊥
  no_clash layer i ours theirs is =
      let at = is.differs in
      let left = claimed_below at.below (2 * i) at.their_left at.claims_left in
      let right = claimed_below at.below (2 * i + 1) at.their_right at.claims_right in
      let two : 2 * (2 ^ at.below) ≤ 2 ^ known.layer = omega (arith, left.first, right.last) in
      let low : at.below < known.layer = elim (cases_lt at.below known.layer) [
        | inl lt ↦ lt
        | inr le ↦ let up = pow_le known.layer at.below le in absurd (omega (arith, up, two, pow_pos at.below))
      ] in
      elim at.differ [
        | inl apart ↦ apart (known_below at.below (2 * i) at.their_left at.our_left low at.claims_left at.knows_left)
        | inr apart ↦ apart (known_below at.below (2 * i + 1) at.their_right at.our_right low at.claims_right at.knows_right)
      ]

  -- a claim that is accepted has the piece's digest
  pub accepted_digest : (grown : Facts) → Accepts sha256 k (leaf_claim from leaves) grown
      → slice_index_or known.digests pieces [] ≡ fold_of sha256 known.layer leaves
  accepted_digest grown accepts =
      same_value (held_at k (top_layer (leaf_claim from leaves)) (top_node (leaf_claim from leaves))) _ _ held_top accepts.conditions.top ∙ top_digest_is

  -- and one that is refused, though memory is there, has another
  pub refused_digest : (error : ProofError) → 0 < known.layer → IsRefused sha256 k (leaf_claim from leaves) error → error ≢ OutOfMemory
      → slice_index_or known.digests pieces [] ≢ fold_of sha256 known.layer leaves
  refused_digest error above (shape none) other = λ _. none (has_shape above)
  refused_digest error above (padding _ none) other = λ _. none has_padding
  refused_digest error above (no_anchor _ _ none) other = λ _. none_some _ (sym none ∙ held_top)
  refused_digest error above (top_differs d _ _ held apart) other = λ same.
      apart (same_value (held_at k (top_layer (leaf_claim from leaves)) (top_node (leaf_claim from leaves))) d _ held held_top ∙ same ∙ sym top_digest_is)
  refused_digest error above (clash layer index ours theirs _ _ _ is) other = λ _. no_clash layer index ours theirs is
  refused_digest error above (no_memory _) other = λ _. other refl

  -- the tree that accepted it holds below other pieces what it held
  pub others_bare : (grown : Facts) → Accepts sha256 k (leaf_claim from leaves) grown → (piece : ℕ) → (piece ≡ pieces → ⊥) → IsBare known piece k
      → IsBare known piece grown
  others_bare grown accepts piece other bare layer i low first last = nothing (held_at grown layer i) (λ d held.
      elim (accepts.joins.only layer i d held) [
        | inl old ↦ none_some d (sym (bare layer i low first last) ∙ old)
        | inr both ↦ let b = claimed_below layer i d both.0 in other (meets b.first b.last)
      ])
    where
      nothing : {X : Type 0} (o : Option X) → ((x : X) → o ≡ Some x → ⊥) → o ≡ None
      nothing None h = refl
      nothing (Some x) h = absurd (h x refl)

      meets : from ≤ i * 2 ^ layer → (i + 1) * 2 ^ layer ≤ from + 2 ^ known.layer → piece ≡ pieces
      meets begins ends = elim (cases_lt piece pieces) [
        | inl lt ↦ let far = mul-le-mul_right {m = piece + 1} {n = pieces} (2 ^ known.layer) (omega (arith, lt)) in absurd (omega (arith, far, place, begins, last))
        | inr le ↦ elim (cases_lt pieces piece) [
          | inl lt ↦
              let far = mul-le-mul_right {m = pieces + 1} {n = piece} (2 ^ known.layer) (omega (arith, lt)) in
              absurd (omega (arith, far, place, first, ends, pow_pos layer))
          | inr ge ↦ omega (arith, le, ge)
        ]
      ]

  -- and the leaves of the piece's blocks
  pub leaf_added : (grown : Facts) → Accepts sha256 k (leaf_claim from leaves) grown → (j : ℕ) → from + j < block_count n → j < 2 ^ known.layer
      → held_at grown 0 (from + j) ≡ Some (get_or leaves j [])
  leaf_added grown accepts j inside_file inside_piece =
      let c = leaf_claim from leaves in
      let whole : known.layer - 0 ≡ known.layer = omega arith in
      let under : (from + j) / 2 ^ (run_height c - 0) ≡ run_node c =
      ap (λ h. (from + j) / 2 ^ (h - 0)) tall ∙ ap (λ h. (from + j) / 2 ^ h) whole ∙ ap (λ m. (m + j) / 2 ^ known.layer) place
      ∙ div-mul-add pieces (2 ^ known.layer) j inside_piece ∙ sym node_is in
      let real_leaf : from + j < real_width (blocks_of k) 0 =
      subst (λ m. from + j < real_width (block_count m) 0) (sym ready.length_is) (real_index (block_count n) 0 (from + j) (omega (arith, inside_file))) in
      accepts.joins.added 0 (from + j) (get_or leaves j [])
      (in_run (record {
        above = 0;
        here = refl;
        low = omega arith;
        under = under;
        digest = sym (row_zero sha256 (run_digest c) (from + j) ∙ digest_from j);
      }))
      (covers (blocks_of k) 0 (from + j) (omega arith) real_leaf)
