-- What is true of the pieces that a search in a set passes.
use Rattle.std.specs.Prelude.{◌≡◌, ℕ, ◌+◌, ◌*◌, ◌<◌, ◌≤◌, Bool, false, List, length, slice_index_or}
use Rattle.bt_engine_state.specs.PieceSets.{without}

-- no piece of the set from one on, and before another
abbrev pub HasNoneTo : List Bool → (from piece : ℕ) → Type 0
HasNoneTo set from piece = (q : ℕ) → from ≤ q → q < piece → slice_index_or set q false ≡ false

-- two sets have this many bytes of pieces alone from byte `place` on, and each piece of the first set there is
-- one of the second
pub record IsWithinAt (place count : ℕ) (set others : List Bool) : Type 0 where
  pub own : 8 * (place + count) ≤ length set
  pub other : 8 * (place + count) ≤ length others
  pub none : HasNoneTo (without set others) (8 * place) (8 * (place + count))

-- there are this many bytes of pieces alone from byte `place` on, and none of those is in the set
pub record IsEmptyAt (place count : ℕ) (set : List Bool) : Type 0 where
  pub own : 8 * (place + count) ≤ length set
  pub none : HasNoneTo set (8 * place) (8 * (place + count))
