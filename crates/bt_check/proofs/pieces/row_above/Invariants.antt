-- The nodes are those of the layer that was reached.
use Rattle.std.proofs.Common.{◌≡◌, ℕ, ◌+◌, ◌*◌, ◌^◌, ◌≤◌, get_or, []}
use Rattle.sha2.specs.Sha256.{sha256}
use Rattle.bt_tree.specs.Peaks.{row_node}
use Rattle.bt_check.proofs.pieces.row_above.Given as goal

abbrev pub invariant-loop : goal.invariant-loop
invariant-loop l = (j : ℕ) → (j + 1) * 2 ^ l.counter ≤ 8
    → get_or l.nodes j [] ≡ row_node sha256 (λ i. get_or l.fn.nodes i []) l.counter j
