-- Trees that take the proofs of a log's hints.
use Rattle.std.specs.Prelude.{◌≡◌, ℕ, List, ◌∷◌, ◌++◌, length, Some, slice_get}
use Rattle.bt_sparse.specs.SparseTree.{Facts}
use Rattle.bt_resume.specs.declared.hint.Hint.{Hint}
use Rattle.bt_machine.specs.Recovery.{TakesHints}

-- each of the trees takes them, and stands where it stood
pub record TakeHints (dig : List ℕ → List ℕ) (hints : List Hint) (old new : List Facts) : Type 0 where
  pub count : length new ≡ length old
  pub each : (t : ℕ) (k : Facts) → slice_get old t ≡ Some k
      → (j : Facts) × (slice_get new t ≡ Some j) × TakesHints dig k hints j

-- So they take the hints in front of one, which is left, with those after it.
pub record TakeFirstHints (dig : List ℕ → List ℕ) (hints : List Hint) (old new : List Facts) : Type 0 where
  pub first : List Hint
  pub next : Hint
  pub rest : List Hint
  pub are_all : hints ≡ first ++ next ∷ rest
  pub taken : TakeHints dig first old new
