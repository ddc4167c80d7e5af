use Rattle.bt_meta.proofs.Base.{map, take, given_at, HasFirstLayers}
use Rattle.bt_meta.proofs.encode.layers_of.Given as goal

abbrev pub invariant-loop-file : goal.invariant-loop-file
invariant-loop-file l = HasFirstLayers l.piece_length (map given_at (take l.file-index l.files)) l.layers
