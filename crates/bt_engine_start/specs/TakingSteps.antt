-- Proof by proof. No public contract cites it.
use Rattle.std.specs.Prelude.{◌≡◌, ℕ, List, Some, slice_get}
use Rattle.bt_sparse.specs.SparseTree.{Facts}
use Rattle.bt_hashreq.specs.declared.key.HashKey.{HashKey}
use Rattle.bt_machine.specs.Recovery.{TakesProof}

-- each of the trees takes a proof, and stands where it stood
abbrev pub TakeProof : (List ℕ → List ℕ) → HashKey → List (List ℕ) → (old new : List Facts) → Type 0
TakeProof dig key digests old new = (t : ℕ) (k : Facts) → slice_get old t ≡ Some k
    → (j : Facts) × (slice_get new t ≡ Some j) × TakesProof dig k key digests j
