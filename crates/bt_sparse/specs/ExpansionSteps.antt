-- Private steps: the pairs of siblings that a claim names, which `accept` works on.
use Rattle.std.specs.Prelude.{◌≡◌, ℕ, zero, suc, ◌+◌, ◌-◌, ◌*◌, ◌/◌, ◌%◌, ◌^◌, ◌<◌, ◌≤◌, ◌==◌, min, List, [], ◌∷◌, ◌++◌, length, slice_index_or, if◌then◌else◌}
use Rattle.bt_tree.specs.Limits.{max_block_count, max_height}
use Rattle.bt_tree.specs.TreeShape.{real_width}
use Rattle.bt_tree.specs.Peaks.{row_node}
use Rattle.bt_sparse.specs.Claim.{Claims, run_height, run_top, run_node, run_digest, path_node, path_digest, top_layer, top_digest}
use Rattle.bt_sparse.specs.declared.claim.Claim.{Claim}
use Rattle.bt_sparse.specs.declared.expansion.ClaimedPair.{ClaimedPair}
use Rattle.bt_sparse.specs.declared.expansion.Expansion.{Expansion}

-- two siblings this many layers above the run, below node i of the next layer
abbrev pub run_pair : (List ℕ → List ℕ) → Claim → ℕ → ℕ → ClaimedPair
run_pair dig c above i = record {
  layer = c.base + above;
  index = i;
  left = row_node dig (run_digest c) above (2 * i);
  right = row_node dig (run_digest c) above (2 * i + 1);
}

-- this many of them, from the left
unfoldable pub layer_pairs : (List ℕ → List ℕ) → Claim → ℕ → ℕ → ℕ → List ClaimedPair
layer_pairs dig c above first zero = []
layer_pairs dig c above first (suc n) =
    layer_pairs dig c above first n ++ run_pair dig c above (first + n) ∷ []

-- how many nodes this many layers above the run and below its top cover a block of n: the first of them
unfoldable pub covered_count : ℕ → Claim → ℕ → ℕ
covered_count n c above = min (2 ^ (run_height c - above))
    (real_width n (c.base + above) - run_node c * 2 ^ (run_height c - above))

-- in the layers from the run's own up, those that lie below the run's top and below a node that covers a
-- block
unfoldable pub run_pairs : (List ℕ → List ℕ) → ℕ → Claim → ℕ → List ClaimedPair
run_pairs dig n c zero = []
run_pairs dig n c (suc above) = run_pairs dig n c above
    ++ layer_pairs dig c above (run_node c * 2 ^ (run_height c - suc above)) (covered_count n c (suc above))

-- a node of the path and its uncle
abbrev pub path_pair : (List ℕ → List ℕ) → Claim → ℕ → ClaimedPair
path_pair dig c above =
    let own = path_digest dig c above in
    let uncle = slice_index_or c.uncles above [] in
    record {
      layer = run_top c + above;
      index = path_node c above / 2;
      left = (if path_node c above % 2 == 0 then own else uncle);
      right = (if path_node c above % 2 == 0 then uncle else own);
    }

unfoldable pub path_pairs : (List ℕ → List ℕ) → Claim → ℕ → List ClaimedPair
path_pairs dig c zero = []
path_pairs dig c (suc above) = path_pairs dig c above ++ path_pair dig c above ∷ []

-- in the tree over n blocks
abbrev pub claimed_pairs : (List ℕ → List ℕ) → ℕ → Claim → List ClaimedPair
claimed_pairs dig n c = run_pairs dig n c (run_height c) ++ path_pairs dig c (length c.uncles)

-- nodes of a layer this many layers above the run, from an index on
abbrev pub AreRunNodes : (List ℕ → List ℕ) → Claim → ℕ → ℕ → List (List ℕ) → Type 0
AreRunNodes dig c above first nodes =
    (i : ℕ) → i < length nodes → slice_index_or nodes i [] ≡ row_node dig (run_digest c) above (first + i)

-- after an odd number of nodes of a layer stands the padding
pub record IsCompleted (padding : List ℕ) (old new : List (List ℕ)) : Type 0 where
  pub size : length new ≡ length old + length old % 2
  pub kept : (i : ℕ) → i < length old → slice_index_or new i [] ≡ slice_index_or old i []
  pub added : (i : ℕ) → length old ≤ i → i < length new → slice_index_or new i [] ≡ padding

-- the first digests of pairs of nodes
pub record AreParents (dig : List ℕ → List ℕ) (nodes above : List (List ℕ)) (count : ℕ) : Type 0 where
  pub size : length above ≡ count
  pub digests : (i : ℕ) → i < count → slice_index_or above i []
      ≡ dig (slice_index_or nodes (2 * i) [] ++ slice_index_or nodes (2 * i + 1) [])

-- a run of a power of two that begins at a multiple of it, in a tree of the height that is allowed
pub record IsShort (c : Claim) : Type 0 where
  pub some : 1 ≤ run_height c
  pub power : length c.run ≡ 2 ^ run_height c
  pub start : c.index ≡ run_node c * 2 ^ run_height c
  pub narrow : c.index + length c.run ≤ max_block_count
  pub low : c.base + run_height c ≤ max_height

-- all pairs that a claim says, and the top's digest
pub record IsExpansion (dig : List ℕ → List ℕ) (n : ℕ) (c : Claim) (e : Expansion) : Type 0 where
  pub pairs : e.pairs.items ≡ claimed_pairs dig n c
  pub digest : e.top_digest ≡ top_digest dig c

-- the claim says these digests of the pair's nodes, which lie below the top's layer, and their digest of
-- the node above
pub record IsPairOf (dig : List ℕ → List ℕ) (c : Claim) (p : ClaimedPair) : Type 0 where
  pub left : Claims dig c p.layer (2 * p.index) p.left
  pub right : Claims dig c p.layer (2 * p.index + 1) p.right
  pub above : Claims dig c (p.layer + 1) p.index (dig (p.left ++ p.right))
  pub low : p.layer < top_layer c
