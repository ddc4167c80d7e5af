-- Private steps: the nodes from a layer up, as they are put into a tree.
use Rattle.std.specs.Prelude.{◌≡◌, ℕ, ◌+◌, length, slice_index_or, [], ◌-◌, ◌<◌, ◌≤◌, ◌⊎◌, List, Some}
use Rattle.std.specs.Option.{unwrap_or}
use Rattle.bt_tree.specs.TreeShape.{height_of, real_width}
use Rattle.bt_tree.specs.Tree.{padding_digest}
use Rattle.bt_tree.specs.Peaks.{row_node}
use Rattle.bt_sparse.specs.NodeMap.{Nodes, digest_at, HasDigests}

-- this many nodes of a layer, from an index on: what is there, or the padding
pub record AreKnown (nodes : Nodes) (layer first : ℕ) (padding : List ℕ)
    (list : List (List ℕ)) (count : ℕ) : Type 0 where
  pub size : length list ≡ count
  pub digests : (i : ℕ) → i < count
      → slice_index_or list i [] ≡ unwrap_or (digest_at nodes layer (first + i)) padding

-- Just these nodes are there: of the layers from `base` up those that cover a block, below layer `top` all of
-- them, and in that layer the first `width`.
pub record IsFilled (dig : List ℕ → List ℕ) (n : ℕ) (row : ℕ → List ℕ)
    (base top width : ℕ) (nodes : Nodes) : Type 0 where
  pub past : (i : ℕ) → real_width n base ≤ i → row i ≡ padding_digest dig base
  pub low : base ≤ top
  pub holds : (l i : ℕ) → base ≤ l → (l < top) ⊎ ((l ≡ top) × (i < width)) → i < real_width n l
      → digest_at nodes l i ≡ Some (row_node dig row (l - base) i)
  pub only : (l i : ℕ) (d : List ℕ) → digest_at nodes l i ≡ Some d
      → (base ≤ l) × ((l < top) ⊎ ((l ≡ top) × (i < width))) × (i < real_width n l)
  pub sizes : HasDigests nodes

-- just the nodes that cover a block are there, all of them from layer `base` up to the root
abbrev pub IsWhole : (List ℕ → List ℕ) → ℕ → (ℕ → List ℕ) → ℕ → Nodes → Type 0
IsWhole dig n row base nodes = IsFilled dig n row base (height_of n) (real_width n (height_of n)) nodes
