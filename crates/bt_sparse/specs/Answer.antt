-- The digests that answer a hash request (BEP 52, the messages "hash request" and "hashes").
use Rattle.std.specs.Prelude.{◌≡◌, ◌≢◌, ℕ, ◌+◌, ◌-◌, ◌/◌, ◌%◌, ◌^◌, ◌<◌, ◌≤◌, List, length, take, drop, slice_index_or, [], Some, None, nat_lt, if◌then◌else◌}
use Rattle.bt_tree.specs.TreeShape.{height_of}
use Rattle.bt_sparse.specs.SparseTree.{Facts, value_at}
use Rattle.bt_sparse.specs.Claim.{run_top, path_node, sibling_of}
use Rattle.bt_sparse.specs.declared.claim.Claim.{Claim}

-- the most nodes of a run that a request may ask for
abbrev pub max_run_length : ℕ
max_run_length = 512

-- A request of the right shape in a tree of height h: a run of nodes of layer `base` from `index` on, and
-- proof layers. That the proof layers end below the root, and that a longer run is refused, are this
-- project's own.
pub record IsRequest (h base index count layers : ℕ) : Type 0 where
  pub some : 2 ≤ count
  pub power : count ≡ 2 ^ height_of count
  pub limit : count ≤ max_run_length
  pub aligned : index % count ≡ 0
  pub low : base + height_of count ≤ h
  pub in_width : index + count ≤ 2 ^ (h - base)
  pub proof : layers + base + 1 ≤ h

-- A run of 2 ^ m nodes with p proof layers is answered with this many uncles: the m - 1 layers below the
-- run's top need none, and the first uncle lies in layer base + m. BEP 52 only says that proof layers below
-- the run's top can be left out; that there are just max(0, p - (m - 1)) uncles, always, is this project's
-- reading.
abbrev pub uncle_count : ℕ → ℕ → ℕ
uncle_count m p = p - (m - 1)

-- how many digests an answer has
abbrev pub answer_size : ℕ → ℕ → ℕ
answer_size count layers = count + uncle_count (height_of count) layers

-- as many digests as the answer has
abbrev pub HasRoom : ℕ → ℕ → List (List ℕ) → Type 0
HasRoom count layers digests = length digests ≡ answer_size count layers

-- The node of digest t of an answer: the run comes first, from the left, then the uncles, from the lowest
-- layer up.
abbrev pub answer_layer : ℕ → ℕ → ℕ → ℕ
answer_layer base count t = if nat_lt t count then base else base + height_of count + (t - count)

abbrev pub answer_index : ℕ → ℕ → ℕ → ℕ
answer_index index count t =
    if nat_lt t count then index + t else sibling_of (index / 2 ^ height_of count / 2 ^ (t - count))

-- the digests are what is known of these nodes
pub record IsAnswer (dig : List ℕ → List ℕ) (k : Facts) (base index count layers : ℕ)
    (digests : List (List ℕ)) : Type 0 where
  pub size : length digests ≡ answer_size count layers
  pub values : (t : ℕ) → t < length digests
      → value_at dig k (answer_layer base count t) (answer_index index count t)
      ≡ Some (slice_index_or digests t [])

-- one of the nodes that a request asks for is not known
pub record HasUnknown (dig : List ℕ → List ℕ) (k : Facts) (base index count layers : ℕ) : Type 0 where
  pub t : ℕ
  pub within : t < answer_size count layers
  pub unknown : value_at dig k (answer_layer base count t) (answer_index index count t) ≡ None

-- each of them is known
abbrev pub KnowsAll : (List ℕ → List ℕ) → Facts → ℕ → ℕ → ℕ → ℕ → Type 0
KnowsAll dig k base index count layers = (t : ℕ) → t < answer_size count layers
    → value_at dig k (answer_layer base count t) (answer_index index count t) ≢ None

-- the claim that an answer makes
abbrev pub claim_of : ℕ → ℕ → ℕ → List (List ℕ) → Claim
claim_of base index count digests = record {
  base = base;
  index = index;
  run = take count digests;
  uncles = drop count digests;
}

-- each digest that a claim gives is what is known of its node
pub record IsMadeOf (dig : List ℕ → List ℕ) (k : Facts) (c : Claim) : Type 0 where
  pub run : (j : ℕ) → j < length c.run
      → value_at dig k c.base (c.index + j) ≡ Some (slice_index_or c.run j [])
  pub uncles : (t : ℕ) → t < length c.uncles
      → value_at dig k (run_top c + t) (sibling_of (path_node c t)) ≡ Some (slice_index_or c.uncles t [])
