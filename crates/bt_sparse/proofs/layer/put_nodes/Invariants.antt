use Rattle.std.proofs.Common.{◌≡◌, ℕ, ◌+◌, ◌-◌, ◌<◌, List, [], length, get_or}
use Rattle.bt_tree.specs.TreeShape.{real_width}
use Rattle.bt_tree.specs.Peaks.{row_node}
use Rattle.bt_sparse.specs.NodeMap.{nodes_in}
use Rattle.bt_sparse.specs.LayerSteps.{IsFilled}
use Rattle.bt_sparse.proofs.layer.put_nodes.Given as goal

abbrev pub invariant-loop-i : goal.invariant-loop-i
invariant-loop-i l = (dig : List ℕ → List ℕ) (n base : ℕ) (row : ℕ → List ℕ) → l.width ≡ real_width n l.layer
    → ((i : ℕ) → i < length l.digests → get_or l.digests i [] ≡ row_node dig row (l.layer - base) (l.first + i))
    → IsFilled dig n row base l.layer l.first (nodes_in l.fn.nodes) → IsFilled dig n row base l.layer (l.first + l.i) (nodes_in l.nodes)
