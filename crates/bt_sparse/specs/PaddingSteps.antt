-- Private steps: the digests that a claim gives of nodes without blocks.
use Rattle.std.specs.Prelude.{◌≡◌, ℕ, ◌+◌, ◌<◌, ◌≤◌, List, length, slice_index_or, []}
use Rattle.bt_tree.specs.TreeShape.{real_width}
use Rattle.bt_tree.specs.Tree.{padding_digest}
use Rattle.bt_sparse.specs.Claim.{run_top, path_node, sibling_of}
use Rattle.bt_sparse.specs.declared.claim.Claim.{Claim}

-- in a tree over n blocks, the digests of the run's nodes that cover no block are the padding's
abbrev pub HasPaddedRun : (List ℕ → List ℕ) → ℕ → Claim → Type 0
HasPaddedRun dig n c = (j : ℕ) → j < length c.run → real_width n c.base ≤ c.index + j
    → slice_index_or c.run j [] ≡ padding_digest dig c.base

-- in a tree over n blocks, the digests of the uncles that cover no block are the padding's
abbrev pub HasPaddedUncles : (List ℕ → List ℕ) → ℕ → Claim → Type 0
HasPaddedUncles dig n c = (t : ℕ) → t < length c.uncles
    → real_width n (run_top c + t) ≤ sibling_of (path_node c t)
    → slice_index_or c.uncles t [] ≡ padding_digest dig (run_top c + t)
