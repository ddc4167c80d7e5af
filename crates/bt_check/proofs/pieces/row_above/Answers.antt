use Rattle.std.proofs.Common.{get_or, [], sym}
use Rattle.sha2.specs.Sha256.{sha256}
use Rattle.bt_tree.proofs.LayerNodes.{row_zero}
use Rattle.bt_check.proofs.PieceRuns.{row_up}
use Rattle.bt_check.proofs.pieces.row_above.Goals as goal

pub loop-init : goal.loop-init
loop-init c = λ j fits. sym (row_zero sha256 (λ i. get_or c.args.nodes i []) j)

pub loop-preserved : goal.loop-preserved
loop-preserved c = λ j fits.
    row_up (λ i. get_or c.args.nodes i []) c.loop.counter j c.loop.nodes _ c.loop.invariant fits (c.parents-nodes.ensures j)
