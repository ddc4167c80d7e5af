-- A leaf that is not known.
use Rattle.std.specs.Prelude.{◌≡◌, ℕ, ◌<◌, List, length, None}
use Rattle.bt_sparse.specs.SparseTree.{Facts, value_at}
use Rattle.bt_machine.specs.State.{FileState, EngineState}
use Rattle.bt_machine.specs.Request.{IsFile}

-- the file has a block whose leaf its tree does not know
pub record HasUnknownLeaf (dig : List ℕ → List ℕ) (s : EngineState) (file : ℕ) : Type 0 where
  pub state : FileState
  pub tree : Facts
  pub block : ℕ
  pub is_file : IsFile s file state tree
  pub inside : block < length state.states
  pub unknown : value_at dig tree 0 block ≡ None
