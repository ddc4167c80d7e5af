-- The proofs of blocks that were claimed together.
use Rattle.std.specs.Prelude.{ℕ, ◌-◌, ◌^◌, min, List, map}
use Rattle.bt_sparse.specs.SparseTree.{Facts}
use Rattle.bt_sparse.specs.Answer.{HasRoom}
use Rattle.bt_hashreq.specs.Request.{max_run_height, planned_key}
use Rattle.bt_hashreq.specs.declared.key.HashKey.{HashKey}
use Rattle.bt_machine.specs.Adopting.{run_starts}

-- the keys of the runs that begin among these blocks, which lie below a node of layer `anchor`
abbrev pub run_keys : Facts → (anchor : ℕ) → List ℕ → List HashKey
run_keys k anchor blocks = map (λ i. planned_key k i anchor) (run_starts anchor blocks)

-- as many digests as answer one of these keys
abbrev pub HoldsAnswer : (anchor : ℕ) → List (List ℕ) → Type 0
HoldsAnswer anchor digests = HasRoom (2 ^ min anchor max_run_height) (anchor - 1) digests
