use Rattle.std.proofs.Common.{◌≡◌, ℕ, ◌+◌, ◌<◌, ◌≤◌, get_or, []}
use Rattle.bt_tree.specs.Blocks.{block_count}
use Rattle.bt_tree.specs.TreeShape.{real_width}
use Rattle.bt_tree.specs.Tree.{padding_digest}
use Rattle.bt_sparse.specs.Claim.{run_top, path_node, sibling_of}
use Rattle.bt_sparse.proofs.padding.are_uncles_padded.Given as goal

abbrev pub invariant-loop-uncle : goal.invariant-loop-uncle
invariant-loop-uncle g l = record {
  node : l.node ≡ path_node l.claim l.uncle-index;
  layer : l.layer ≡ run_top l.claim + l.uncle-index;
  low : l.padding ≤ l.layer;
  padded : (t : ℕ) → t < l.uncle-index → real_width (block_count l.fn.geometry) (run_top l.claim + t) ≤ sibling_of (path_node l.claim t)
      → get_or l.claim.uncles t [] ≡ padding_digest g.H.NodeHash.digest (run_top l.claim + t);
}
