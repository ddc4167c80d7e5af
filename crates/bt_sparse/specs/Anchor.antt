-- Where what is known of a leaf ends, on the way up from it.
use Rattle.std.specs.Prelude.{◌≡◌, ℕ, ◌/◌, ◌^◌, ◌<◌, ◌≤◌, IsSome, None}
use Rattle.bt_sparse.specs.SparseTree.{Facts, height, held_at}

-- the layer of the nearest node above a leaf that is held, 0 for the leaf itself
pub record IsAnchor (k : Facts) (leaf anchor : ℕ) : Type 0 where
  pub inside : anchor ≤ height k
  pub held : IsSome (held_at k anchor (leaf / 2 ^ anchor))
  pub nearest : (layer : ℕ) → layer < anchor → held_at k layer (leaf / 2 ^ layer) ≡ None
