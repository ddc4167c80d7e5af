-- What the digests that come with a key claim (BEP 52, "hashes").
use Rattle.std.specs.Prelude.{◌≡◌, ℕ, ◌+◌, ◌*◌, ◌/◌, ◌%◌, ◌^◌, ◌≤◌, List, length}
use Rattle.std.specs.Simd.{first_chunks}
use Rattle.bt_tree.specs.Limits.{digest_length, max_height}
use Rattle.bt_tree.specs.TreeShape.{height_of}
use Rattle.bt_sparse.specs.Answer.{max_run_length, answer_size, claim_of}
use Rattle.bt_sparse.specs.declared.claim.Claim as sparse
use Rattle.bt_sparse.specs.declared.claim.ProofError.{ProofError}
use Rattle.bt_sparse.specs.declared.claim.ProofError.TheVariants.{Shape, Count, OutOfMemory}
use Rattle.bt_hashreq.specs.declared.key.HashKey.{HashKey}

-- a power of two from 2 up; that 512 is the most is BEP 52's advice, and a rule here
pub record IsRunLength (n : ℕ) : Type 0 where
  pub some : 2 ≤ n
  pub limit : n ≤ max_run_length
  pub power : n ≡ 2 ^ height_of n

-- a key that may name digests of some tree
pub record HasShape (k : HashKey) : Type 0 where
  pub run : IsRunLength k.length
  pub aligned : k.index % k.length ≡ 0
  pub base : k.base ≤ max_height
  pub layers : k.layers ≤ max_height

-- no key names more digests: those of the longest run, and an uncle for each layer of the highest tree
abbrev pub max_digests : ℕ
max_digests = max_run_length + max_height

-- as many digests as the key names, one after the other
abbrev pub HasSize : HashKey → List ℕ → Type 0
HasSize k digests = length digests ≡ digest_length * answer_size k.length k.layers

-- the digests, 32 bytes each
abbrev pub digests_in : List ℕ → List (List ℕ)
digests_in bytes = first_chunks digest_length (length bytes / digest_length) bytes

-- the run comes first, from the left, and then the uncles, from the lowest layer up
abbrev pub claim_by : HashKey → List ℕ → sparse.Claim
claim_by k digests = claim_of k.base k.index k.length (digests_in digests)

-- the key has a shape and the digests its size, and this is what they claim
pub record IsClaimBy (k : HashKey) (digests : List ℕ) (claim : sparse.Claim) : Type 0 where
  pub shape : HasShape k
  pub size : HasSize k digests
  pub claim_is : claim ≡ claim_by k digests

-- The first of the two that fails. Out of memory comes after them.
pub data IsNoClaim (k : HashKey) (digests : List ℕ) : ProofError → Type 0 where
  shape : ¬ HasShape k → IsNoClaim k digests Shape
  count : HasShape k → ¬ HasSize k digests → IsNoClaim k digests Count
  no_memory : HasShape k → HasSize k digests → IsNoClaim k digests OutOfMemory
