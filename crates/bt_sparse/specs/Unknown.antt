-- Which leaves of blocks are known: a leaf of a block is known where it is held.
use Rattle.std.specs.Prelude.{◌≡◌, ℕ, ◌<◌, ◌≤◌, IsSome, None}
use Rattle.bt_sparse.specs.SparseTree.{Facts, blocks_of, held_at}

-- each leaf from one on is held, up to another
abbrev pub HoldsLeaves : Facts → ℕ → ℕ → Type 0
HoldsLeaves k from to = (i : ℕ) → from ≤ i → i < to → IsSome (held_at k 0 i)

-- the first leaf of a block from one on that is not held
pub record IsNextUnknown (k : Facts) (from leaf : ℕ) : Type 0 where
  pub after : from ≤ leaf
  pub block : leaf < blocks_of k
  pub unknown : held_at k 0 leaf ≡ None
  pub nearest : HoldsLeaves k from leaf
