-- Private steps: what `accept` finds of the pairs that a claim names.
use Rattle.std.specs.Prelude.{◌≡◌, ◌≢◌, ℕ, ◌+◌, ◌-◌, ◌*◌, ◌^◌, ◌<◌, ◌≤◌, ◌⊎◌, List, length, Option, Some, None, MatchOption, nat_lt, ◌==◌, ◌||◌, ◌&&◌, if◌then◌else◌}
use Rattle.std.specs.FinMap as finite
use Rattle.std.specs.List.{All, Contains}
use Rattle.bt_tree.specs.Limits.{max_block_count, max_height}
use Rattle.bt_tree.specs.TreeShape.{real_width}
use Rattle.bt_tree.specs.Tree.{padding_digest}
use Rattle.bt_sparse.specs.NodeMap.{Nodes, digest_at, HasDigests, Layers, HasPlace}
use Rattle.bt_sparse.specs.SparseTree.{Facts, blocks_of, height, held_at, value_at}
use Rattle.bt_sparse.specs.Claim.{Claims, HasShape, top_layer, top_node}
use Rattle.bt_sparse.specs.Acceptance.{HasPadding, IsAcceptable}
use Rattle.bt_sparse.specs.ExpansionSteps.{IsExpansion}
use Rattle.bt_sparse.specs.declared.claim.Claim.{Claim}
use Rattle.bt_sparse.specs.declared.expansion.ClaimedPair.{ClaimedPair}
use Rattle.bt_sparse.specs.declared.expansion.Expansion.{Expansion}
use Rattle.bt_sparse.specs.declared.acceptance.Difference.{Difference}

-- a tree of height h has the pair, below its root
pub record IsPairIn (h : ℕ) (p : ClaimedPair) : Type 0 where
  pub low : p.layer < h
  pub narrow : p.index < 2 ^ (h - (p.layer + 1))
  pub high : p.layer < max_height
  pub few : p.index < max_block_count

-- in a tree over n blocks, a node of the pair that covers none has the padding digest
pub record IsPadded (dig : List ℕ → List ℕ) (n : ℕ) (p : ClaimedPair) : Type 0 where
  pub left : real_width n p.layer ≤ 2 * p.index → p.left ≡ padding_digest dig p.layer
  pub right : real_width n p.layer ≤ 2 * p.index + 1 → p.right ≡ padding_digest dig p.layer

-- where the tree knows both nodes, it knows these digests
abbrev pub HasNoDifference : (List ℕ → List ℕ) → Facts → ClaimedPair → Type 0
HasNoDifference dig k p = (l r : List ℕ) → value_at dig k p.layer (2 * p.index) ≡ Some l
    → value_at dig k p.layer (2 * p.index + 1) ≡ Some r → (l ≡ p.left) × (r ≡ p.right)

-- the tree knows both nodes, and one or both with another digest
pub record IsDifference (dig : List ℕ → List ℕ) (k : Facts) (f : Difference) : Type 0 where
  pub knows_left : value_at dig k f.pair.layer (2 * f.pair.index) ≡ Some f.left
  pub knows_right : value_at dig k f.pair.layer (2 * f.pair.index + 1) ≡ Some f.right
  pub differ : (f.left ≢ f.pair.left) ⊎ (f.right ≢ f.pair.right)

-- the pair lies in a lower layer, or in the same one and not to the left
abbrev pub IsNotHigher : ClaimedPair → ClaimedPair → Type 0
IsNotHigher p f = (p.layer < f.layer) ⊎ ((p.layer ≡ f.layer) × (f.index ≤ p.index))

-- of these pairs, the highest with a difference
pub record IsHighestIn (dig : List ℕ → List ℕ) (k : Facts) (pairs : List ClaimedPair)
    (f : Difference) : Type 0 where
  pub among : Contains pairs f.pair
  pub differs : IsDifference dig k f
  pub highest : All (λ p. HasNoDifference dig k p ⊎ IsNotHigher p f.pair) pairs

abbrev pub IsHighestOf : (List ℕ → List ℕ) → Facts → List ClaimedPair → Option Difference → Type 0
IsHighestOf dig k pairs found =
    MatchOption found (All (HasNoDifference dig k) pairs) (IsHighestIn dig k pairs)

-- of two differences the higher one, and in one layer the one to the left
abbrev pub higher_of : Option Difference → Option Difference → Option Difference
higher_of None next = next
higher_of (Some f) None = Some f
higher_of (Some f) (Some d) =
    if nat_lt f.pair.layer d.pair.layer || (d.pair.layer == f.pair.layer && nat_lt d.pair.index f.pair.index)
    then Some d
    else Some f

-- the digest was put at the node, where that covers a block, and this many nodes are new
pub record IsPut (n layer i : ℕ) (d : List ℕ) (old new : Nodes) (count : ℕ) : Type 0 where
  pub length_is : length d ≡ 32
  pub covers : i < real_width n layer → new ≡ finite.insert old (layer, i) d
  pub past : real_width n layer ≤ i → new ≡ old
  pub size_is : finite.len new ≡ finite.len old + count
  pub one : count ≤ 1

-- the nodes of the pair that cover a block have its digests
pub record IsAdded (n : ℕ) (nodes : Nodes) (p : ClaimedPair) : Type 0 where
  pub left : 2 * p.index < real_width n p.layer → digest_at nodes p.layer (2 * p.index) ≡ Some p.left
  pub right : 2 * p.index + 1 < real_width n p.layer
      → digest_at nodes p.layer (2 * p.index + 1) ≡ Some p.right

-- no claimed node is there with another digest
abbrev pub AgreesAt : (List ℕ → List ℕ) → Nodes → Claim → Type 0
AgreesAt dig nodes c = (layer i : ℕ) (d e : List ℕ) → Claims dig c layer i d
    → digest_at nodes layer i ≡ Some e → e ≡ d

-- to what was there, claimed nodes were added that cover a block, this many of them new
pub record IsGrown (dig : List ℕ → List ℕ) (c : Claim) (n : ℕ) (old new : Nodes) (count : ℕ) : Type 0 where
  pub kept : (layer i : ℕ) (d : List ℕ) → digest_at old layer i ≡ Some d → digest_at new layer i ≡ Some d
  pub only : (layer i : ℕ) (d : List ℕ) → digest_at new layer i ≡ Some d
      → (digest_at old layer i ≡ Some d) ⊎ (Claims dig c layer i d × (i < real_width n layer))
  pub sizes : HasDigests old → HasDigests new
  pub size_is : finite.len new ≡ finite.len old + count

-- claimed nodes were added to what was there, and all of these pairs' nodes are there
pub record IsGrownBy (dig : List ℕ → List ℕ) (c : Claim) (n : ℕ) (old new : Nodes)
    (count : ℕ) (pairs : List ClaimedPair) : Type 0 where
  pub grown : IsGrown dig c n old new count
  pub added : All (IsAdded n new) pairs

-- the nodes of the pair that cover a block have their pages
pub record HasPlaces (n : ℕ) (layers : Layers) (p : ClaimedPair) : Type 0 where
  pub left : 2 * p.index < real_width n p.layer → HasPlace layers p.layer (2 * p.index)
  pub right : 2 * p.index + 1 < real_width n p.layer → HasPlace layers p.layer (2 * p.index + 1)

-- the claim has the right shape and padding, and its top is held with this digest
pub record HangsFrom (dig : List ℕ → List ℕ) (k : Facts) (c : Claim) (d : List ℕ) : Type 0 where
  pub shape : HasShape (height k) c
  pub padding : HasPadding dig k c
  pub held : held_at k (top_layer c) (top_node c) ≡ Some d

-- the tree can accept the claim, and these are its pairs
pub record IsExpandedClaim (dig : List ℕ → List ℕ) (k : Facts) (c : Claim) (e : Expansion) : Type 0 where
  pub conditions : IsAcceptable dig k c
  pub expansion : IsExpansion dig (blocks_of k) c e
  pub inside : All (IsPairIn (height k)) e.pairs.items
  pub narrow : length e.pairs.items < 2 ^ 28
