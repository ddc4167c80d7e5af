use Rattle.std.proofs.Common.{◌≡◌, ℕ, ◌+◌, ◌*◌, ◌++◌, List}
use Rattle.bt_sparse.specs.ExpansionSteps.{layer_pairs, AreRunNodes}
use Rattle.bt_sparse.specs.declared.claim.Claim.{Claim}
use Rattle.bt_sparse.proofs.expansion.add_layer.Given as goal

abbrev pub invariant-loop-i : goal.invariant-loop-i
invariant-loop-i l = (dig : List ℕ → List ℕ) (c : Claim) (above : ℕ) → l.layer ≡ c.base + above → AreRunNodes dig c above (2 * l.first) l.nodes
    → l.pairs.items ≡ l.fn.pairs.items ++ layer_pairs dig c above l.first l.i
