-- The blocks so far were read, and counted.
use Rattle.std.proofs.Common.{ℕ, ◌-◌, List, Option}
use Rattle.bt_tree.specs.Blocks.{block_count}
use Rattle.bt_check.specs.CheckSteps.{HoldsLeaves}
use Rattle.bt_check.specs.Finding.{KnownLayer}
use Rattle.bt_check.proofs.BlockChecks.{IsChecking}
use Rattle.bt_check.proofs.entry_check.check_blocks.Given as goal

abbrev pub invariant-loop-from : goal.invariant-loop-from
invariant-loop-from g l =
    (known : KnownLayer) (leaves : ℕ → Option (List ℕ)) → HoldsLeaves l.fn.tree.file_length known leaves l.fn.tree
    → IsChecking g.D.Disk.conduct l.fn.tree.file_length known leaves l.fn.disk l.from l.marked l.faulty l.tree l.store

abbrev pub decreases-loop-from : goal.decreases-loop-from
decreases-loop-from g l = block_count l.geometry - l.from
