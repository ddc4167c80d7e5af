-- The blocks before the end of the run were read; the run is empty where it ends the share.
use Rattle.std.proofs.Common.{◌≡◌, ℕ, ◌-◌, ◌≤◌, List, Option}
use Rattle.bt_tree.specs.Blocks.{block_count}
use Rattle.bt_check.specs.CheckSteps.{HoldsLeaves}
use Rattle.bt_check.specs.Finding.{KnownLayer}
use Rattle.bt_parts.specs.declared.run.Met.TheVariants.{Nothing}
use Rattle.bt_jobs.specs.Share.{IsPieceEdge}
use Rattle.bt_jobs.proofs.Sharing.{IsSharing}
use Rattle.bt_jobs.proofs.share.check_share.Given as goal

abbrev pub invariant-loop-run : goal.invariant-loop-run
invariant-loop-run g l =
    ((known : KnownLayer) (leaves : ℕ → Option (List ℕ)) → HoldsLeaves l.fn.tree.file_length known leaves l.fn.tree
    → IsPieceEdge known l.fn.tree.file_length l.share.from
    → IsSharing g.D.Disk.conduct l.fn.tree.file_length known leaves l.fn.disk l.file l.share.from l.run l.tree l.store
    (g.W.Write.contents l.fn.writer) (g.W.Write.contents l.writer))
    × (l.share.to ≤ l.run.to → (l.run.from ≡ l.run.to) × (l.run.met ≡ Nothing))

abbrev pub decreases-loop-run : goal.decreases-loop-run
decreases-loop-run g l = block_count l.fn.tree.file_length - l.run.to
