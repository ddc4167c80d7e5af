use Rattle.bt_meta.proofs.Base.{ap, map, codes, data_of, inl, inr, refl, ◌∙◌, layers_of, with_layer, err_from_is_err_and}
use Rattle.bt_meta.proofs.FileLayers.{pieces_after, files_with_layers}
use Rattle.bt_meta.proofs.ReadHead.{info_is, metainfo_is, torrent_head_fault, torrent_tree_refused, torrent_layers, torrent_layers_refused}
use Rattle.bt_meta.proofs.Dictionaries.{at_key}
use Rattle.bt_meta.proofs.ReadFiles.{layers_lawful}
use Rattle.bt_meta.proofs.reader.torrent_in.Goals as goal

pub torrent_of-requires-clause-lawful : goal.torrent_of-requires-clause-lawful
torrent_of-requires-clause-lawful c =
    let info_ascends = rw (← c.in-Some.ensures) at (at_key (data_of c.args.value.now) (codes "info") c.requires.ascending) in
    rw c.in_ok-add_layers.ensures.whole
    (layers_lawful info_ascends c.in_ok-head.ensures c.in_ok-listing.ensures _ c.in_ok-add_layers.ensures.faultless)

pub returns-in_err-head-clause-refused : goal.returns-in_err-head-clause-refused
returns-in_err-head-clause-refused c =
    let q = err_from_is_err_and c.from_residual.result c.from_residual.ensures.1 in
    rw (q.1, q.2) (inr (torrent_head_fault _ c.in-Some.ensures c.in_err-head.ensures))

pub returns-in_err-listing-clause-refused : goal.returns-in_err-listing-clause-refused
returns-in_err-listing-clause-refused c =
    let q = err_from_is_err_and c.from_residual-in_err-listing.result c.from_residual-in_err-listing.ensures.1 in
    rw (q.1, q.2) (torrent_tree_refused _ c.in-Some.ensures c.in_ok-head.ensures c.in_err-listing.ensures)

pub add_layers-requires-clause-lawful : goal.add_layers-requires-clause-lawful
add_layers-requires-clause-lawful c = c.in_ok-head.ensures.lawful

pub add_layers-requires-clause-short : goal.add_layers-requires-clause-short
add_layers-requires-clause-short c = c.in_ok-listing.ensures.short

pub returns-in_err-add_layers-clause-refused : goal.returns-in_err-add_layers-clause-refused
returns-in_err-add_layers-clause-refused c =
    let q = err_from_is_err_and c.from_residual-in_err-add_layers.result c.from_residual-in_err-add_layers.ensures.1 in
    rw (q.1, q.2) (torrent_layers_refused _ c.in-Some.ensures c.in_ok-head.ensures c.in_ok-listing.ensures c.in_err-add_layers.ensures.refused)

pub torrent_of-requires-clause-counted : goal.torrent_of-requires-clause-counted
torrent_of-requires-clause-counted c = pieces_after _ _ _ _ _ c.in_ok-listing.ensures.pieces c.in_ok-add_layers.ensures.whole

pub returns-in_err-torrent-clause-refused : goal.returns-in_err-torrent-clause-refused
returns-in_err-torrent-clause-refused c =
    let q = err_from_is_err_and c.from_residual-in_err-torrent.result c.from_residual-in_err-torrent.ensures.1 in
    rw q.1 (inl q.2)

pub returns-clause-faultless : goal.returns-clause-faultless
returns-clause-faultless c = torrent_layers _ c.in-Some.ensures c.in_ok-head.ensures c.in_ok-listing.ensures ∙ c.in_ok-add_layers.ensures.faultless

pub returns-clause-described : goal.returns-clause-described
returns-clause-described c =
    let layers = layers_of (data_of c.args.value.now) in
    let n = c.in_ok-head.head.piece_length in
    let files = c.in_ok-add_layers.ensures.whole ∙ ap (map (with_layer n layers)) c.in_ok-listing.ensures.files
    ∙ files_with_layers n layers (data_of c.in_ok-head.head.tree.now) in
    rw (
      info_is _ c.in-Some.ensures,
      metainfo_is layers _ c.in_ok-head.ensures files,
      c.in_ok-torrent.ensures,
      c.infohash_in-infohash.ensures,
      info_is _ c.in-Some.ensures,
    ) refl
