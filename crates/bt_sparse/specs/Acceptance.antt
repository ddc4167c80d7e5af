-- When a claim is accepted, what is known after it, and why it is refused.
use Rattle.std.specs.Prelude.{◌≡◌, ◌≢◌, ℕ, ◌+◌, ◌*◌, ◌<◌, ◌≤◌, ◌⊎◌, List, ◌++◌, Some, None, IsSome}
use Rattle.bt_tree.specs.TreeShape.{IsPadding, CoversBlock}
use Rattle.bt_tree.specs.Tree.{padding_digest}
use Rattle.bt_sparse.specs.SparseTree.{Facts, blocks_of, height, held_at, value_at}
use Rattle.bt_sparse.specs.Claim.{Claims, HasShape, top_layer, top_node, top_digest}
use Rattle.bt_sparse.specs.declared.claim.Claim.{Claim}
use Rattle.bt_sparse.specs.declared.claim.ProofError.{ProofError}
use Rattle.bt_sparse.specs.declared.claim.ProofError.TheVariants.{Shape, Padding, NoAnchor, TopDiffers, Clash, OutOfMemory}

-- the claimed nodes that cover no block have the padding digest
abbrev pub HasPadding : (List ℕ → List ℕ) → Facts → Claim → Type 0
HasPadding dig k c =
    (layer i : ℕ) (d : List ℕ) → Claims dig c layer i d → IsPadding (blocks_of k) layer i
    → d ≡ padding_digest dig layer

-- no claimed node is held with another digest
abbrev pub Agrees : (List ℕ → List ℕ) → Facts → Claim → Type 0
Agrees dig k c = (layer i : ℕ) (d e : List ℕ) → Claims dig c layer i d → held_at k layer i ≡ Some e → e ≡ d

-- what a claim has to meet: its shape, its padding, a top that is held with the digest claimed, and no
-- difference
pub record IsAcceptable (dig : List ℕ → List ℕ) (k : Facts) (c : Claim) : Type 0 where
  pub shape : HasShape (height k) c
  pub padding : HasPadding dig k c
  pub top : held_at k (top_layer c) (top_node c) ≡ Some (top_digest dig c)
  pub agrees : Agrees dig k c

-- to what is held, the claimed nodes that cover a block are added, and nothing else
pub record IsJoined (dig : List ℕ → List ℕ) (old : Facts) (c : Claim) (new : Facts) : Type 0 where
  pub file_length : new.file_length ≡ old.file_length
  pub root : new.root ≡ old.root
  pub kept : (layer i : ℕ) (d : List ℕ) → held_at old layer i ≡ Some d → held_at new layer i ≡ Some d
  pub added : (layer i : ℕ) (d : List ℕ) → Claims dig c layer i d → CoversBlock (blocks_of old) layer i
      → held_at new layer i ≡ Some d
  pub only : (layer i : ℕ) (d : List ℕ) → held_at new layer i ≡ Some d
      → (held_at old layer i ≡ Some d) ⊎ (Claims dig c layer i d × CoversBlock (blocks_of old) layer i)

-- the claim is accepted, and what is known after it
pub record Accepts (dig : List ℕ → List ℕ) (old : Facts) (c : Claim) (new : Facts) : Type 0 where
  pub conditions : IsAcceptable dig old c
  pub joins : IsJoined dig old c new

-- Below this node the tree knows two digests and the claim says two, of which one or both differ. Each two,
-- the left one first, are a node's input.
pub record DiffersBelow (dig : List ℕ → List ℕ) (k : Facts) (c : Claim) (layer i : ℕ)
    (ours theirs : List ℕ) : Type 0 where
  pub below : ℕ
  pub above : layer ≡ below + 1
  pub our_left : List ℕ
  pub our_right : List ℕ
  pub their_left : List ℕ
  pub their_right : List ℕ
  pub knows_left : value_at dig k below (2 * i) ≡ Some our_left
  pub knows_right : value_at dig k below (2 * i + 1) ≡ Some our_right
  pub claims_left : Claims dig c below (2 * i) their_left
  pub claims_right : Claims dig c below (2 * i + 1) their_right
  pub is_ours : ours ≡ our_left ++ our_right
  pub is_theirs : theirs ≡ their_left ++ their_right
  pub differ : (our_left ≢ their_left) ⊎ (our_right ≢ their_right)

-- The difference nearest to the root, and of several in one layer the leftmost. Its two inputs, which are
-- different, have one digest.
pub record IsHighestClash (dig : List ℕ → List ℕ) (k : Facts) (c : Claim) (layer i : ℕ)
    (ours theirs : List ℕ) : Type 0 where
  pub differs : DiffersBelow dig k c layer i ours theirs
  pub inputs : ours ≢ theirs
  pub digests : dig ours ≡ dig theirs
  pub highest : (l j : ℕ) (o t : List ℕ) → DiffersBelow dig k c l j o t
      → (l < layer) ⊎ ((l ≡ layer) × (i ≤ j))

-- The claim has the right shape and padding, and its top is held. `accept` runs out of memory only then, in
-- place of Ok, P5 or P6.
pub record HasHeldTop (dig : List ℕ → List ℕ) (k : Facts) (c : Claim) : Type 0 where
  pub shape : HasShape (height k) c
  pub padding : HasPadding dig k c
  pub held : IsSome (held_at k (top_layer c) (top_node c))

-- The first condition that fails, in the order of `IsAcceptable`. Of out of memory this asks the shape alone;
-- `HasHeldTop` says when it may come.
pub data IsRefused (dig : List ℕ → List ℕ) (k : Facts) (c : Claim) : ProofError → Type 0 where
  shape : ¬ HasShape (height k) c → IsRefused dig k c Shape
  padding : HasShape (height k) c → ¬ HasPadding dig k c → IsRefused dig k c Padding
  no_anchor : HasShape (height k) c → HasPadding dig k c → held_at k (top_layer c) (top_node c) ≡ None
      → IsRefused dig k c NoAnchor
  top_differs : (d : List ℕ) → HasShape (height k) c → HasPadding dig k c
      → held_at k (top_layer c) (top_node c) ≡ Some d → d ≢ top_digest dig c → IsRefused dig k c TopDiffers
  clash : (layer index : ℕ) (ours theirs : List ℕ) → HasShape (height k) c → HasPadding dig k c
      → held_at k (top_layer c) (top_node c) ≡ Some (top_digest dig c)
      → IsHighestClash dig k c layer index ours theirs → IsRefused dig k c (Clash layer index ours theirs)
  no_memory : HasShape (height k) c → IsRefused dig k c OutOfMemory
