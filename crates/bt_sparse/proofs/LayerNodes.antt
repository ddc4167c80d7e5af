-- The nodes from a layer up.
use Rattle.std.proofs.Common.{◌≡◌, ℕ, zero, suc, ◌+◌, ◌-◌, ◌*◌, ◌/◌, ◌^◌, ◌<◌, ◌≤◌, ◌⊎◌, inl, inr, List, [], ◌++◌, length, replicate, get_or, Option, Some, None, refl, sym, ap, ◌∙◌, subst, arith}
use Rattle.std.specs.FinMap as finite
use Rattle.std.specs.Option.{unwrap_or}
use Rattle.std.specs.Simd.{first_chunks}
use Rattle.std.proofs.Math.Nat.{pow-suc}
use Rattle.std.proofs.lemmas.Nat.{pow_pos}
use Rattle.std.proofs.lemmas.Bool.{cases_lt, lt-ltb, le-ltb}
use Rattle.std.proofs.lemmas.List.{get_or_append_left, get_or-append_right, get_or-replicate}
use Rattle.bt_tree.specs.Blocks.{IsFileLength, block_count}
use Rattle.bt_tree.specs.TreeShape.{height_of, real_width, IsInside, CoversBlock}
use Rattle.bt_tree.specs.Tree.{padding_digest}
use Rattle.bt_tree.specs.Peaks.{row_node}
use Rattle.bt_tree.specs.Layers.{IsLayer, layer_digests}
use Rattle.bt_tree.proofs.TreeNodes.{row_parent, row_node_same, fold_is, padding_suc}
use Rattle.bt_tree.proofs.TreeShape.{real_limit, real_some}
use Rattle.bt_sparse.specs.NodeMap.{Nodes, digest_at}
use Rattle.bt_sparse.specs.SparseTree.{Facts, height, held_at, value_at, IsSound}
use Rattle.bt_sparse.specs.Layer.{layer_digest, HoldsLayer}
use Rattle.bt_sparse.specs.ExpansionSteps.{AreParents}
use Rattle.bt_sparse.specs.LayerSteps.{AreKnown, IsFilled, IsWhole}
use Rattle.bt_sparse.proofs.NodeMaps.{digest_at_new, digest_at_cases, digest_at_kept, digest_at_empty}
use Rattle.bt_sparse.proofs.Values.{same_value, none_some, value_covers, value_padding, cases_node, covers_parent}
use Rattle.bt_sparse.proofs.Acceptances.{real_below}

row_first : (dig : List ℕ → List ℕ) (row : ℕ → List ℕ) (i : ℕ) → row_node dig row 0 i ≡ row i
unfolding row_node
row_first dig row i = refl

-- past the nodes that cover a block there is padding
row_past : (dig : List ℕ → List ℕ) (n base : ℕ) (row : ℕ → List ℕ) → ((i : ℕ) → real_width n base ≤ i → row i ≡ padding_digest dig base)
    → (a i : ℕ) → real_width n (base + a) ≤ i → row_node dig row a i ≡ padding_digest dig (base + a)
row_past dig n base row past zero i le =
    let flat : base + 0 ≡ base = omega arith in
    row_first dig row i ∙ past i (subst (λ l. real_width n l ≤ i) flat le) ∙ ap (padding_digest dig) (sym flat)
row_past dig n base row past (suc a) i le =
    let up : base + suc a ≡ base + a + 1 = omega arith in
    let next : base + suc a ≡ suc (base + a) = omega arith in
    let wide : real_width n (base + a) ≤ 2 * i = real_below n (base + a) i (subst (λ l. real_width n l ≤ i) up le) in
    sym (row_parent dig row a i (2 * i) (2 * i + 1) refl refl)
    ∙ ap (λ x. dig (x ++ row_node dig row a (2 * i + 1))) (row_past dig n base row past a (2 * i) wide)
    ∙ ap (λ x. dig (padding_digest dig (base + a) ++ x)) (row_past dig n base row past a (2 * i + 1) (omega arith))
    ∙ padding_suc dig (base + a) ∙ ap (padding_digest dig) (sym next)

pub filled_none : (dig : List ℕ → List ℕ) (n base : ℕ) (row : ℕ → List ℕ) (nodes : Nodes) → nodes ≡ finite.empty
    → ((i : ℕ) → real_width n base ≤ i → row i ≡ padding_digest dig base) → IsFilled dig n row base base 0 nodes
filled_none dig n base row nodes e past = rw e record {
  past = past;
  low = omega arith;
  holds = λ l i from within real. elim within [ inl lt ↦ absurd (omega arith) | inr at ↦ absurd (omega (arith, at.1)) ];
  only = λ l i d held. absurd (none_some d (sym (digest_at_empty l i) ∙ held));
  sizes = λ l i d held. absurd (none_some d (sym (digest_at_empty l i) ∙ held));
}

pub filled_more : (dig : List ℕ → List ℕ) (n base top width : ℕ) (row : ℕ → List ℕ) (nodes new : Nodes) (d : List ℕ) → IsFilled dig n row base top width nodes
    → width < real_width n top → d ≡ row_node dig row (top - base) width → length d ≡ 32 → new ≡ finite.insert nodes (top, width) d
    → IsFilled dig n row base top (width + 1) new
filled_more dig n base top width row nodes new d h real is size e = rw e record {
  past = h.past;
  low = h.low;
  holds = holds;
  only = λ l i f held. elim (digest_at_cases nodes top width l i d f held) [
    | inl at ↦ (omega (arith, at.0, h.low), inr (at.0, omega (arith, at.1)), rw (at.0, at.1) real)
    | inr was ↦
        let o = h.only l i f was in
        (o.0, wider l i o.1, o.2)
  ];
  sizes = λ l i f held. elim (digest_at_cases nodes top width l i d f held) [ inl at ↦ ap length at.2 ∙ size | inr was ↦ h.sizes l i f was ];
}
  where
    wider : (l i : ℕ) → (l < top) ⊎ ((l ≡ top) × (i < width)) → (l < top) ⊎ ((l ≡ top) × (i < width + 1))
    wider l i (inl a) = inl a
    wider l i (inr b) = inr (b.0, omega (arith, b.1))

    kept : (l i : ℕ) → base ≤ l → (l < top) ⊎ ((l ≡ top) × (i < width)) → i < real_width n l
        → digest_at (finite.insert nodes (top, width) d) l i ≡ Some (row_node dig row (l - base) i)
    kept l i from within inside = digest_at_kept nodes top width l i d (row_node dig row (l - base) i)
        (λ p q. absurd (elim within [ inl a ↦ omega (arith, p, a) | inr b ↦ omega (arith, q, b.1) ])) (h.holds l i from within inside)

    holds : (l i : ℕ) → base ≤ l → (l < top) ⊎ ((l ≡ top) × (i < width + 1)) → i < real_width n l
        → digest_at (finite.insert nodes (top, width) d) l i ≡ Some (row_node dig row (l - base) i)
    holds l i from (inl a) inside = kept l i from (inl a) inside
    holds l i from (inr b) inside = elim (cases_lt i width) [
      | inl lt ↦ kept l i from (inr (b.0, lt)) inside
      | inr le ↦
          let here : i ≡ width = omega (arith, b.1) in
          rw (b.0, here) (digest_at_new nodes top width d ∙ ap (λ x. Some x) is)
    ]

pub filled_next : (dig : List ℕ → List ℕ) (n base top width : ℕ) (row : ℕ → List ℕ) (nodes : Nodes) → width ≡ real_width n top
    → IsFilled dig n row base top width nodes → IsFilled dig n row base (top + 1) 0 nodes
filled_next dig n base top width row nodes e h = record {
  past = h.past;
  low = omega (arith, h.low);
  holds = λ l i from within real. elim within [
    | inl lt ↦ elim (cases_lt l top) [
      | inl below ↦ h.holds l i from (inl below) real
      | inr le ↦
          let same : l ≡ top = omega arith in
          h.holds l i from (inr (same, omega (arith, e, subst (λ m. i < real_width n m) same real))) real
    ]
    | inr at ↦ absurd (omega (arith, at.1))
  ];
  only = λ l i d held.
      let o = h.only l i d held in
      (o.0, elim o.1 [ inl a ↦ inl (omega (arith, a)) | inr b ↦ inl (omega (arith, b.0)) ], o.2);
  sizes = h.sizes;
}

-- a child of the next layer's node: what is held, or the padding
child : (dig : List ℕ → List ℕ) (n base below width : ℕ) (row : ℕ → List ℕ) (nodes : Nodes) (pad : List ℕ) (j : ℕ) → IsFilled dig n row base (below + 1) width nodes
    → base ≤ below → pad ≡ padding_digest dig below → unwrap_or (digest_at nodes below j) pad ≡ row_node dig row (below - base) j
child dig n base below width row nodes pad j h low e = go (digest_at nodes below j) refl
  where
    up : base + (below - base) ≡ below
    up = omega arith

    go : (o : Option (List ℕ)) → digest_at nodes below j ≡ o → unwrap_or (digest_at nodes below j) pad ≡ row_node dig row (below - base) j
    go None none = elim (cases_lt j (real_width n below)) [
      | inl real ↦ absurd (none_some (row_node dig row (below - base) j) (sym none ∙ h.holds below j low (inl (omega arith)) real))
      | inr le ↦ ap (λ o. unwrap_or o pad) none ∙ e ∙ ap (padding_digest dig) (sym up)
          ∙ sym (row_past dig n base row h.past (below - base) j (subst (λ l. real_width n l ≤ j) (sym up) le))
    ]
    go (Some d) held =
        let o = h.only below j d held in
        ap (λ o. unwrap_or o pad) held ∙ same_value (digest_at nodes below j) d (row_node dig row (below - base) j) held (h.holds below j low (inl (omega arith)) o.2)

-- the digests above known nodes
pub parents_known : (dig : List ℕ → List ℕ) (n base below first count : ℕ) (row : ℕ → List ℕ) (nodes : Nodes) (pad : List ℕ) (children digests : List (List ℕ))
    → IsFilled dig n row base (below + 1) first nodes → base ≤ below → pad ≡ padding_digest dig below
    → AreKnown nodes below (2 * first) pad children (2 * count) → AreParents dig children digests (length children / 2)
    → (i : ℕ) → i < length digests → get_or digests i [] ≡ row_node dig row (below + 1 - base) (first + i)
parents_known dig n base below first count row nodes pad children digests h low p known parents i lt =
    let next : suc (below - base) ≡ below + 1 - base = omega arith in
    let inside : i < length children / 2 = omega (arith, parents.size) in
    let left : 2 * first + 2 * i ≡ 2 * (first + i) = omega arith in
    let right : 2 * first + (2 * i + 1) ≡ 2 * (first + i) + 1 = omega arith in
    let l = known.digests (2 * i) (omega (arith, known.size)) ∙ child dig n base below first row nodes pad (2 * first + 2 * i) h low p ∙ ap (row_node dig row (below - base)) left in
    let r = known.digests (2 * i + 1) (omega (arith, known.size)) ∙ child dig n base below first row nodes pad (2 * first + (2 * i + 1)) h low p ∙ ap (row_node dig row (below - base)) right in
    parents.digests i inside ∙ ap (λ x. dig (x ++ get_or children (2 * i + 1) [])) l ∙ ap (λ x. dig (row_node dig row (below - base) (2 * (first + i)) ++ x)) r
    ∙ row_parent dig row (below - base) (first + i) (2 * (first + i)) (2 * (first + i) + 1) refl refl ∙ ap (λ k. row_node dig row k (first + i)) next

pub row_start : (dig : List ℕ → List ℕ) (row : ℕ → List ℕ) (base i : ℕ) (d : List ℕ) → row i ≡ d → d ≡ row_node dig row (base - base) (0 + i)
row_start dig row base i d e =
    let none : 0 ≡ base - base = omega arith in
    let same : i ≡ 0 + i = omega arith in
    sym e ∙ sym (row_first dig row i) ∙ ap (λ k. row_node dig row k i) none ∙ ap (row_node dig row (base - base)) same

-- ---- the tree
module _ (dig : List ℕ → List ℕ) (bytes : ℕ) (row : ℕ → List ℕ) (base : ℕ) (root : List ℕ) (nodes : Nodes) (h : IsWhole dig (block_count bytes) row base nodes) where
  abbrev tree : Facts
  tree = record { file_length = bytes; root = root; nodes = nodes }

  at_layer : (l i : ℕ) → l ≤ height tree → i < real_width (block_count bytes) l → (l < height tree) ⊎ ((l ≡ height tree) × (i < real_width (block_count bytes) (height tree)))
  at_layer l i le real = elim (cases_lt l (height tree)) [
    | inl lt ↦ inl lt
    | inr ge ↦ (let same : l ≡ height tree = omega arith in inr (same, subst (λ m. i < real_width (block_count bytes) m) same real))
  ]

  in_tree : (l i : ℕ) (d : List ℕ) → held_at tree l i ≡ Some d → CoversBlock (block_count bytes) l i
  in_tree l i d held =
      let o = h.only l i d held in
      let high : l ≤ height tree = elim o.1 [ inl a ↦ omega (arith, a) | inr b ↦ omega (arith, b.0) ] in
      record {
        inside = record { in_height = high; in_width = omega (arith, o.2, real_limit (block_count bytes) l high) };
        real = o.2;
      }

  holds : (l i : ℕ) → base ≤ l → CoversBlock (block_count bytes) l i → held_at tree l i ≡ Some (row_node dig row (l - base) i)
  holds l i from covers = h.holds l i from (at_layer l i covers.inside.in_height covers.real) covers.real

  value : (l i : ℕ) → base ≤ l → IsInside (block_count bytes) l i → value_at dig tree l i ≡ Some (row_node dig row (l - base) i)
  value l i from inside = elim (cases_node (block_count bytes) l i inside) [
    | inl covers ↦ value_covers dig tree l i covers ∙ holds l i from covers
    | inr past ↦
        let up : base + (l - base) ≡ l = omega arith in
        value_padding dig tree l i past ∙ ap (λ x. Some x) (sym (row_past dig (block_count bytes) base row h.past (l - base) i
        (subst (λ m. real_width (block_count bytes) m ≤ i) (sym up) past.past) ∙ ap (padding_digest dig) up))
  ]

  pub filled_sound : IsFileLength bytes → row_node dig row (height tree - base) 0 ≡ root → IsSound dig record { file_length = bytes; root = root; nodes = nodes }
  filled_sound lawful folds = record {
    lawful = lawful;
    rooted = record {
      top = holds (height tree) 0 h.low record {
        inside = record { in_height = omega arith; in_width = pow_pos (height tree - height tree) };
        real = real_some (block_count bytes) (2 ^ height tree) (pow_pos (height tree)) (omega (arith, lawful.some));
      } ∙ ap (λ x. Some x) folds;
      covers = in_tree;
      below = λ l i d held low.
          let o = h.only l i d held in
          let covers = in_tree l i d held in
          let half : ℕ = i / 2 in
          let room : 2 ^ (height tree - l) ≡ 2 ^ (height tree - (l + 1)) * 2 =
          (let up : height tree - l ≡ suc (height tree - (l + 1)) = omega arith in ap (λ e. 2 ^ e) up) ∙ pow-suc 2 (height tree - (l + 1)) in
          let next : suc (l - base) ≡ l + 1 - base = omega (arith, o.0) in
          record {
            left = row_node dig row (l - base) (2 * (i / 2));
            right = row_node dig row (l - base) (2 * (i / 2) + 1);
            left_value = value l (2 * (i / 2)) o.0 record { in_height = covers.inside.in_height; in_width = omega (arith, covers.inside.in_width) };
            right_value = value l (2 * (i / 2) + 1) o.0 record { in_height = covers.inside.in_height; in_width = omega (arith, covers.inside.in_width, room) };
            parent = holds (l + 1) (i / 2) (omega (arith, o.0)) (covers_parent (block_count bytes) l i covers low)
                ∙ ap (λ x. Some x) (sym (row_parent dig row (l - base) (i / 2) (2 * (i / 2)) (2 * (i / 2) + 1) refl refl ∙ ap (λ k. row_node dig row k (i / 2)) next));
          };
    };
    digests = h.sizes;
  }

-- the layer's digests, as a row
pub layer_real : (dig : List ℕ → List ℕ) (n layer : ℕ) (bytes : List ℕ) (i : ℕ) → i < real_width n layer
    → layer_digest dig n layer bytes i ≡ get_or (first_chunks 32 (real_width n layer) bytes) i []
layer_real dig n layer bytes i lt = rw lt-ltb refl

pub layer_past : (dig : List ℕ → List ℕ) (n layer : ℕ) (bytes : List ℕ) (i : ℕ) → real_width n layer ≤ i → layer_digest dig n layer bytes i ≡ padding_digest dig layer
layer_past dig n layer bytes i le = rw le-ltb refl

pub layer_folds : (dig : List ℕ → List ℕ) (n layer : ℕ) (root bytes : List ℕ) → length (first_chunks 32 (real_width n layer) bytes) ≡ real_width n layer
    → IsLayer dig n root layer bytes → row_node dig (layer_digest dig n layer bytes) (height_of n - layer) 0 ≡ root
layer_folds dig n layer root bytes size is =
    let chunks : List (List ℕ) = first_chunks 32 (real_width n layer) bytes in
    let one : (j : ℕ) → 0 * 2 ^ (height_of n - layer) ≤ j → j < (0 + 1) * 2 ^ (height_of n - layer)
    → layer_digest dig n layer bytes j ≡ get_or (layer_digests dig n layer bytes) j [] = λ j low high. elim (cases_lt j (real_width n layer)) [
      | inl real ↦ layer_real dig n layer bytes j real
          ∙ sym (get_or_append_left (first_chunks 32 (real_width n layer) bytes) (replicate (2 ^ (height_of n - layer) - real_width n layer) (padding_digest dig layer)) [] j (omega (arith, size)))
      | inr past ↦ layer_past dig n layer bytes j past
          ∙ sym (get_or-append_right (first_chunks 32 (real_width n layer) bytes) (replicate (2 ^ (height_of n - layer) - real_width n layer) (padding_digest dig layer)) (real_width n layer) j [] size past
          ∙ get_or-replicate (2 ^ (height_of n - layer) - real_width n layer) (j - real_width n layer) (padding_digest dig layer) [] (omega arith))
    ] in
    row_node_same dig (layer_digest dig n layer bytes) (λ i. get_or (layer_digests dig n layer bytes) i []) (height_of n - layer) 0 one
    ∙ sym (fold_is dig (height_of n - layer) (layer_digests dig n layer bytes)) ∙ is.folds

pub holds_layer : (dig : List ℕ → List ℕ) (length_is : ℕ) (root : List ℕ) (layer : ℕ) (bytes : List ℕ) (nodes : Nodes)
    → IsLayer dig (block_count length_is) root layer bytes → IsWhole dig (block_count length_is) (layer_digest dig (block_count length_is) layer bytes) layer nodes
    → HoldsLayer dig length_is root layer bytes record { file_length = length_is; root = root; nodes = nodes }
holds_layer dig file root layer bytes nodes is h = record {
  length_is = refl;
  root_is = refl;
  is_layer = is;
  holds = λ l i from covers. holds dig file (layer_digest dig (block_count file) layer bytes) layer root nodes h l i from covers;
  only = λ l i d held. ((h.only l i d held).0, in_tree dig file (layer_digest dig (block_count file) layer bytes) layer root nodes h l i d held);
}
