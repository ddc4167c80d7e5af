-- What follows from the definitions.
use Rattle.std.specs.Prelude.{◌≡◌, ◌≢◌, ℕ, ◌+◌, ◌*◌, ◌/◌, ◌^◌, ◌<◌, ◌⊎◌, List, ◌++◌, length, Some, IsSome}
use Rattle.bt_tree.specs.Blocks.{IsFileLength}
use Rattle.bt_tree.specs.Tree.{node_digest, file_root, input_at}
use Rattle.bt_sparse.specs.NodeMap.{HasDigests}
use Rattle.bt_sparse.specs.SparseTree.{Facts, height, held_at, value_at, root_facts, IsRooted, IsChecked, IsSound}
use Rattle.bt_sparse.specs.Layer.{HoldsLayer}
use Rattle.bt_sparse.specs.Claim.{Claims, HasShape, top_layer, top_node}
use Rattle.bt_sparse.specs.Acceptance.{Agrees, IsAcceptable, Accepts}
use Rattle.bt_sparse.specs.Answer.{IsRequest, IsAnswer, IsMadeOf, claim_of}
use Rattle.bt_sparse.specs.declared.claim.Claim.{Claim}

-- A tree of a layer is sound: it is rooted, and its digests have 32 bytes.
abbrev pub LayersAreSound : (List ℕ → List ℕ) → Type 0
LayersAreSound dig = (file_length layer : ℕ) (root bytes : List ℕ) (k : Facts) → IsFileLength file_length
    → HoldsLayer dig file_length root layer bytes k → IsSound dig k

-- A tree of which the root alone is known is sound.
abbrev pub RootsAreSound : (List ℕ → List ℕ) → Type 0
RootsAreSound dig = (file_length : ℕ) (root : List ℕ) → IsFileLength file_length → length root ≡ 32
    → IsSound dig (root_facts file_length root)

-- a tree that is rooted stays so when a claim is accepted
abbrev pub KeepsRooted : (List ℕ → List ℕ) → Type 0
KeepsRooted dig = (old new : Facts) (c : Claim) → Accepts dig old c new → IsRooted dig old → IsRooted dig new

-- every held node of a rooted tree is checked
abbrev pub HeldIsChecked : (List ℕ → List ℕ) → Type 0
HeldIsChecked dig =
    (k : Facts) → IsRooted dig k → (layer i : ℕ) (d : List ℕ) → held_at k layer i ≡ Some d
    → IsChecked dig k layer i d

-- a claim says one digest of a node
abbrev pub ClaimsOne : (List ℕ → List ℕ) → Type 0
ClaimsOne dig = (c : Claim) (layer i : ℕ) (d e : List ℕ)
    → Claims dig c layer i d → Claims dig c layer i e → d ≡ e

-- of every node that a claim made of a rooted tree's values names, the tree has the digest that the claim
-- says
abbrev pub MadeClaimsAgree : (List ℕ → List ℕ) → Type 0
MadeClaimsAgree dig = (k : Facts) (c : Claim) → IsRooted dig k → HasShape (height k) c → IsMadeOf dig k c
    → (layer i : ℕ) (d : List ℕ) → Claims dig c layer i d → value_at dig k layer i ≡ Some d

-- such a claim is the one that the tree's answer to a request makes
abbrev pub AnswersAgree : (List ℕ → List ℕ) → Type 0
AnswersAgree dig = (k : Facts) (base index count layers : ℕ) (digests : List (List ℕ)) → IsRooted dig k
    → IsRequest (height k) base index count layers → IsAnswer dig k base index count layers digests
    → (layer i : ℕ) (d : List ℕ) → Claims dig (claim_of base index count digests) layer i d
    → value_at dig k layer i ≡ Some d

-- What a rooted tree answers, made a claim, is acceptable to any tree of the same file length that holds the
-- claim's top and no node of it with another digest.
abbrev pub AnswersAreTaken : (List ℕ → List ℕ) → Type 0
AnswersAreTaken dig = (k other : Facts) (base index count layers : ℕ) (digests : List (List ℕ))
    → IsRooted dig k
    → IsRequest (height k) base index count layers → IsAnswer dig k base index count layers digests
    → other.file_length ≡ k.file_length
    → IsSome (held_at other (top_layer (claim_of base index count digests))
    (top_node (claim_of base index count digests)))
    → Agrees dig other (claim_of base index count digests)
    → IsAcceptable dig other (claim_of base index count digests)

-- a tree that knows the root alone accepts an answer of which the uncles reach up to the root
abbrev pub AnswersReachRoots : (List ℕ → List ℕ) → Type 0
AnswersReachRoots dig = (k : Facts) (base index count layers : ℕ) (digests : List (List ℕ)) → IsRooted dig k
    → IsRequest (height k) base index count layers → IsAnswer dig k base index count layers digests
    → top_layer (claim_of base index count digests) ≡ height k
    → IsAcceptable dig (root_facts k.file_length k.root) (claim_of base index count digests)

-- At a node on the path from leaf i up, the tree's two digests below it are another input than the file's, of
-- one digest.
pub record IsClashOnPath (dig : List ℕ → List ℕ) (k : Facts) (file : List ℕ) (i : ℕ) : Type 0 where
  pub layer : ℕ
  pub left : List ℕ
  pub right : List ℕ
  pub low : layer < height k
  pub left_value : value_at dig k layer (2 * (i / 2 ^ (layer + 1))) ≡ Some left
  pub right_value : value_at dig k layer (2 * (i / 2 ^ (layer + 1)) + 1) ≡ Some right
  pub inputs : left ++ right ≢ input_at dig file (layer + 1) (i / 2 ^ (layer + 1))
  pub digests : dig (left ++ right) ≡ dig (input_at dig file (layer + 1) (i / 2 ^ (layer + 1)))

-- For every file of the tree's length and root, a leaf that the tree holds is the file's, or a clash is
-- found.
abbrev pub LeavesAreFiles : (List ℕ → List ℕ) → Type 0
LeavesAreFiles dig = (k : Facts) (file : List ℕ) (i : ℕ) (d : List ℕ) → IsRooted dig k → HasDigests k.nodes
    → length file ≡ k.file_length → file_root dig file ≡ k.root → held_at k 0 i ≡ Some d
    → (d ≡ node_digest dig file 0 i) ⊎ IsClashOnPath dig k file i
