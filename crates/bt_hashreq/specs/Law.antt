-- What follows from the definitions of keys and plans.
use Rattle.std.specs.Prelude.{◌≡◌, ℕ, ◌<◌, List, IsSome, None}
use Rattle.bt_tree.specs.Blocks.{IsFileLength}
use Rattle.bt_sparse.specs.SparseTree.{Facts, blocks_of, height, held_at, IsRooted}
use Rattle.bt_sparse.specs.Acceptance.{Agrees, IsAcceptable, IsJoined}
use Rattle.bt_sparse.specs.Answer.{IsRequest, IsAnswer, KnowsAll}
use Rattle.bt_hashreq.specs.declared.key.HashKey.{HashKey}
use Rattle.bt_hashreq.specs.Key.{key_spelling, IsKey}
use Rattle.bt_hashreq.specs.Claim.{HasShape, HasSize, digests_in, IsClaimBy, claim_by}
use Rattle.bt_hashreq.specs.Request.{IsPlan}

-- no bytes spell two keys: so a key that was written is read back
abbrev pub SpellsOneKey : Type 0
SpellsOneKey = (a b : HashKey) → IsKey a → IsKey b → key_spelling a ≡ key_spelling b → a ≡ b

-- the key that asks for a leaf is one that may name digests, and a request of the right shape in its tree
pub record IsLawfulPlan (k : Facts) (key : HashKey) : Type 0 where
  pub shape : HasShape key
  pub request : IsRequest (height k) key.base key.index key.length key.layers

abbrev pub PlansAreLawful : Type 0
PlansAreLawful = (k : Facts) (leaf : ℕ) (key : HashKey) → IsFileLength k.file_length → leaf < blocks_of k
    → held_at k 0 leaf ≡ None → IsPlan k leaf key → IsLawfulPlan k key

-- a leaf is held for each block
abbrev pub HasLeaves : Facts → Type 0
HasLeaves k = (i : ℕ) → i < blocks_of k → IsSome (held_at k 0 i)

-- the bytes are a tree's answer to the key
pub record IsAnswerTo (dig : List ℕ → List ℕ) (k : Facts) (key : HashKey) (bytes : List ℕ) : Type 0 where
  pub size : HasSize key bytes
  pub answer : IsAnswer dig k key.base key.index key.length key.layers (digests_in bytes)

-- A tree `full` knows all that a key asks for. Its answer is a claim by that key; tree k can accept it where
-- k holds no node of the claim with another digest; and then the leaf is held.
pub record TeachesLeaf (dig : List ℕ → List ℕ) (k full : Facts) (leaf : ℕ) (key : HashKey) : Type 0 where
  pub known : KnowsAll dig full key.base key.index key.length key.layers
  pub claims : (bytes : List ℕ) → IsAnswerTo dig full key bytes → IsClaimBy key bytes (claim_by key bytes)
  pub taken : (bytes : List ℕ) → IsAnswerTo dig full key bytes → Agrees dig k (claim_by key bytes)
      → IsAcceptable dig k (claim_by key bytes)
  pub learned : (bytes : List ℕ) (new : Facts) → IsAnswerTo dig full key bytes
      → IsJoined dig k (claim_by key bytes) new → IsSome (held_at new 0 leaf)

-- every rooted tree of the same file length that holds all leaves answers the key that asks for a leaf, and
-- its answer gives the leaf
abbrev pub PlansTeach : (List ℕ → List ℕ) → Type 0
PlansTeach dig = (k full : Facts) (leaf : ℕ) (key : HashKey) → IsFileLength k.file_length → leaf < blocks_of k
    → held_at k 0 leaf ≡ None → IsPlan k leaf key → IsRooted dig full → full.file_length ≡ k.file_length
    → HasLeaves full → TeachesLeaf dig k full leaf key
