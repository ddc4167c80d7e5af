-- A tree of which a layer is known, and so all above it (BEP 52, `piece layers`).
use Rattle.std.specs.Prelude.{◌≡◌, ◌≢◌, ℕ, ◌-◌, ◌≤◌, List, [], slice_index_or, Some, nat_lt, if◌then◌else◌}
use Rattle.std.specs.Simd.{first_chunks}
use Rattle.bt_tree.specs.Blocks.{block_count}
use Rattle.bt_tree.specs.TreeShape.{real_width, CoversBlock}
use Rattle.bt_tree.specs.Tree.{padding_digest}
use Rattle.bt_tree.specs.Layers.{IsLayer}
use Rattle.bt_tree.specs.Peaks.{row_node}
use Rattle.bt_sparse.specs.SparseTree.{Facts, held_at, root_facts}

-- digest i of a layer of the tree over n blocks, of which these bytes have those that cover a block
abbrev pub layer_digest : (List ℕ → List ℕ) → ℕ → ℕ → List ℕ → ℕ → List ℕ
layer_digest dig n layer bytes i =
    if nat_lt i (real_width n layer)
    then slice_index_or (first_chunks 32 (real_width n layer) bytes) i []
    else padding_digest dig layer

-- The bytes are a layer of the tree, and just the nodes of this layer and of those above are held that cover
-- a block.
pub record HoldsLayer (dig : List ℕ → List ℕ) (file_length : ℕ) (root : List ℕ)
    (layer : ℕ) (bytes : List ℕ) (k : Facts) : Type 0 where
  pub length_is : k.file_length ≡ file_length
  pub root_is : k.root ≡ root
  pub is_layer : IsLayer dig (block_count file_length) root layer bytes
  pub holds : (l i : ℕ) → layer ≤ l → CoversBlock (block_count file_length) l i
      → held_at k l i
      ≡ Some (row_node dig (layer_digest dig (block_count file_length) layer bytes) (l - layer) i)
  pub only : (l i : ℕ) (d : List ℕ) → held_at k l i ≡ Some d
      → (layer ≤ l) × CoversBlock (block_count file_length) l i

-- What a torrent tells of a file's tree, and nothing else, is held: the layer that these bytes are and all
-- above it, or, where there are none, the root alone.
pub data IsToldTree (dig : List ℕ → List ℕ) (file_length : ℕ) (root : List ℕ)
    (layer : ℕ) (bytes : List ℕ) (k : Facts) : Type 0 where
  of_layer : bytes ≢ [] → HoldsLayer dig file_length root layer bytes k
      → IsToldTree dig file_length root layer bytes k
  of_root : bytes ≡ [] → k ≡ root_facts file_length root → IsToldTree dig file_length root layer bytes k
