use Rattle.std.proofs.Common.{◌≡◌, ℕ, ◌<◌, ◌≤◌, List, [], length, get_or}
use Rattle.bt_tree.specs.Blocks.{block_count}
use Rattle.bt_tree.specs.TreeShape.{real_width}
use Rattle.bt_tree.specs.Tree.{padding_digest}
use Rattle.bt_sparse.specs.NodeMap.{nodes_in}
use Rattle.bt_sparse.specs.LayerSteps.{IsFilled}
use Rattle.bt_sparse.proofs.layer.nodes_from.Given as goal

abbrev pub invariant-loop-below : goal.invariant-loop-below
invariant-loop-below g l = record {
  padding : l.padding ≡ padding_digest g.H.NodeHash.digest l.below;
  filled : (row : ℕ → List ℕ) → ((i : ℕ) → i < length l.digests → row i ≡ get_or l.digests i [])
      → ((i : ℕ) → length l.digests ≤ i → row i ≡ padding_digest g.H.NodeHash.digest l.layer)
      → IsFilled g.H.NodeHash.digest (block_count l.geometry) row l.layer l.below (real_width (block_count l.geometry) l.below) (nodes_in l.nodes);
}
