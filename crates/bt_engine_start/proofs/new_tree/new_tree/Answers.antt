use Rattle.std.proofs.Common.{sym, ◌∙◌}
use Rattle.std.proofs.lemmas.Result.{IfOk-weaker}
use Rattle.bt_meta.specs.Files.{file_of}
use Rattle.bt_sparse.specs.Layer.{IsToldTree, of_layer, of_root}
use Rattle.bt_machine.specs.Start.{IsTreeFrom, by_layer, by_root}
use Rattle.bt_engine_start.proofs.new_tree.new_tree.Goals as goal

pub from_torrent-requires : goal.from_torrent-requires
from_torrent-requires g c =
    rw (c.requires.digest, c.requires.length, c.deref.ensures.value)
    (c.layers_are_of_trees.ensures c.args.torrent.now.piece_length c.piece_layer-layer.result (file_of c.args.file.now)
    (sym c.piece_length.ensures.said ∙ c.piece_layer-layer.ensures.value) c.requires.lawful)

pub returns : goal.returns
returns g c =
    let file = file_of c.args.file.now in
    IfOk-weaker c.from_torrent.result (IsToldTree g.H.NodeHash.digest file.length file.root c.piece_layer-layer.result file.layer) (IsTreeFrom g.H.NodeHash.digest c.args.torrent.now file)
    (λ tree told. elim told [
      | of_layer some holds ↦ by_layer c.piece_layer-layer.result some (sym c.piece_length.ensures.said ∙ c.piece_layer-layer.ensures.value) holds
      | of_root none is ↦ by_root none is
    ]) (rw (c.requires.length, c.deref.ensures.value) at c.from_torrent.ensures)
