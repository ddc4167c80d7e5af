-- Trees of a layer are sound.
use Rattle.std.proofs.Common.{◌≡◌, ℕ, zero, suc, ◌*◌, ◌<◌, ◌≤◌, ◌⊎◌, inl, inr, List, [], length, get_or, Some, refl, sym, ap, ◌∙◌, length-drop, arith}
use Rattle.std.specs.Simd.{first_chunks}
use Rattle.std.proofs.lemmas.Bool.{cases_lt}
use Rattle.std.proofs.lemmas.List.{length-take}
use Rattle.bt_tree.specs.Blocks.{IsFileLength, block_count}
use Rattle.bt_tree.specs.NodeHash.{IsDigest}
use Rattle.bt_tree.specs.Peaks.{row_node}
use Rattle.bt_tree.specs.TreeShape.{height_of, real_width}
use Rattle.bt_tree.proofs.TreeShape.{real_limit}
use Rattle.bt_sparse.specs.SparseTree.{Facts, IsSound}
use Rattle.bt_sparse.specs.Layer.{layer_digest, HoldsLayer}
use Rattle.bt_sparse.specs.LayerSteps.{IsWhole}
use Rattle.bt_sparse.proofs.LayerNodes.{layer_real, layer_past, layer_folds, filled_sound}

-- ---- the digests of a layer
chunk_length : (count i : ℕ) (bytes : List ℕ) → i < count → 32 * count ≤ length bytes → length (get_or (first_chunks 32 count bytes) i []) ≡ 32
chunk_length zero i bytes lt room = absurd (omega arith)
chunk_length (suc count) zero bytes lt room = omega (arith, length-take 32 bytes)
chunk_length (suc count) (suc i) bytes lt room = chunk_length count i _ (omega arith) (omega (arith, length-drop 32 bytes))

pub chunk_count : (count : ℕ) (bytes : List ℕ) → length (first_chunks 32 count bytes) ≡ count
chunk_count zero bytes = refl
chunk_count (suc count) bytes = ap (λ n. suc n) (chunk_count count _)

row_length : (dig : List ℕ → List ℕ) → IsDigest dig → (row : ℕ → List ℕ) (up i : ℕ) → ((j : ℕ) → up ≡ 0 → j ≡ i → length (row j) ≡ 32)
    → length (row_node dig row up i) ≡ 32
unfolding row_node
row_length dig sizes row zero i first = first i refl refl
row_length dig sizes row (suc up) i first = sizes _

-- ---- the tree
layer_whole : {dig : List ℕ → List ℕ} → IsDigest dig → {n layer : ℕ} {root bytes : List ℕ} {k : Facts} → HoldsLayer dig n root layer bytes k
    → IsWhole dig (block_count n) (layer_digest dig (block_count n) layer bytes) layer k.nodes
layer_whole {dig} sizes {n} {layer} {root} {bytes} h = record {
  past = layer_past dig (block_count n) layer bytes;
  low = h.is_layer.size.inside;
  holds = λ l i from within real.
      let low : l ≤ height_of (block_count n) = elim within [ inl lt ↦ omega arith | inr top ↦ omega arith ] in
      h.holds l i from (record { inside = record { in_height = low; in_width = (let wide = real_limit (block_count n) l low in omega arith) }; real = real });
  only = λ l i d held.
      let o = h.only l i d held in
      (o.0, at_layer i o.1.inside.in_height o.1.real, o.1.real);
  sizes = λ l i d held.
      let o = h.only l i d held in
      let is = some_is (sym held ∙ h.holds l i o.0 o.1) in
      ap length is ∙ row_length dig sizes _ _ i (λ j flat same.
      let same_layer : l ≡ layer = omega arith in
      let real : j < real_width (block_count n) layer = rw (← same_layer) (omega arith) in
      ap length (layer_real dig (block_count n) layer bytes j real) ∙ chunk_length _ j bytes real (omega arith));
}
  where
    some_is : {x y : List ℕ} → Some x ≡ Some y → x ≡ y
    some_is e = cc

    at_layer : {l : ℕ} (i : ℕ) → l ≤ height_of (block_count n) → i < real_width (block_count n) l
        → (l < height_of (block_count n)) ⊎ ((l ≡ height_of (block_count n)) × (i < real_width (block_count n) (height_of (block_count n))))
    at_layer {l} i le real = elim (cases_lt l (height_of (block_count n))) [
      | inl lt ↦ inl lt
      | inr ge ↦ (let same : l ≡ height_of (block_count n) = omega arith in inr (same, rw (← same) real))
    ]

pub layers_are_sound : {dig : List ℕ → List ℕ} → IsDigest dig → (n layer : ℕ) (root bytes : List ℕ) (k : Facts) → IsFileLength n
    → HoldsLayer dig n root layer bytes k → IsSound dig k
layers_are_sound {dig} sizes n layer root bytes k lawful h =
    let row = layer_digest dig (block_count n) layer bytes in
    let sound = filled_sound dig n row layer root k.nodes (layer_whole sizes h) lawful
    (layer_folds dig (block_count n) layer root bytes (chunk_count _ bytes) h.is_layer) in
    let is = ap (λ m. record k { root = root; file_length = m }) (sym h.length_is) ∙ ap (λ r. record k { root = r }) (sym h.root_is) in
    rw (← is) sound
