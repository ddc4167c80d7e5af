-- The hint of hashes that come, and when it is kept.
use Rattle.std.specs.Prelude.{ℕ, nat_lt, if◌then◌else◌, Bool, List, Option, Some, None}
use Rattle.std.specs.FinMap as finite
use Rattle.bt_sparse.specs.SparseTree.{Facts}
use Rattle.bt_hashreq.specs.Claim.{digests_in}
use Rattle.bt_hashreq.specs.declared.key.HashKey.{HashKey}
use Rattle.bt_machine.specs.State.{Hint, proof_of}

-- with a log their key and digests, and nothing without one
abbrev pub hint_of : (logged : Bool) → HashKey → List ℕ → Option Hint
hint_of logged key digests = if logged then Some (proof_of key (digests_in digests)) else None

-- it is kept where the tree got a node more
abbrev pub kept_hint : (old new : Facts) → Option Hint → Option Hint
kept_hint old new hint = if nat_lt (finite.len old.nodes) (finite.len new.nodes) then hint else None
