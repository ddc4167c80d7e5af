use Rattle.bt_meta.proofs.Base.{dictionary, entries_of}
use Rattle.bt_meta.proofs.FileLayers.{IsUnderWay}
use Rattle.bt_meta.specs.LayerSteps.{AreRight}
use Rattle.bt_meta.proofs.layers.add_layers_of.Given as goal

abbrev pub invariant-loop-file : goal.invariant-loop-file
invariant-loop-file l = IsUnderWay l.piece_length (dictionary (entries_of l.entries)) l.file-index l.fn.files l.files
    × AreRight l.piece_length (dictionary (entries_of l.entries)) l.right
