use Rattle.bt_sparse.proofs.LayerTrees.{layers_are_sound}
use Rattle.bt_sparse.proofs.law.layers_are_sound.Goals as goal

pub returns : goal.returns
returns g c = layers_are_sound g.met.H.NodeHash.has_32_bytes
