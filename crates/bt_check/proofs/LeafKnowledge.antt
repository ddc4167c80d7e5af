-- The leaves that a tree holds.
use Rattle.std.proofs.Common.{◌≡◌, ℕ, ◌<◌, Option, List, ◌∙◌}
use Rattle.bt_tree.specs.Blocks.{block_count}
use Rattle.bt_sparse.specs.SparseTree.{Facts}
use Rattle.bt_check.specs.CheckSteps.{HoldsLeaves}
use Rattle.bt_check.specs.Finding.{KnownLayer}

-- the same leaves are known of the blocks of the file
pub same_leaves : (n : ℕ) (known : KnownLayer) (leaves others : ℕ → Option (List ℕ)) (k : Facts) → ((i : ℕ) → i < block_count n → leaves i ≡ others i)
    → HoldsLeaves n known leaves k → HoldsLeaves n known others k
same_leaves n known leaves others k same h = record {
  length_is = h.length_is;
  inside = h.inside;
  width = h.width;
  holds = h.holds;
  leaf = λ i d lt e. h.leaf i d lt (same i lt ∙ e);
  bare = λ i lt e. h.bare i lt (same i lt ∙ e);
}
