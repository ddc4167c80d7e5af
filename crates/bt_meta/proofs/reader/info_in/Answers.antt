use Rattle.bt_meta.proofs.Base.{inl, inr, refl, no_dictionary, err_from_is_err_and}
use Rattle.bt_meta.proofs.ReadFiles.{info_lawful}
use Rattle.bt_meta.proofs.ReadHead.{metainfo_is, info_head_fault, info_tree_refused, info_faultless}
use Rattle.bt_meta.proofs.reader.info_in.Goals as goal

pub returns-in_err-head-clause-refused : goal.returns-in_err-head-clause-refused
returns-in_err-head-clause-refused c =
    let q = err_from_is_err_and c.from_residual.result c.from_residual.ensures.1 in
    rw (q.1, q.2) (inr (info_head_fault _ c.if-not-is_dictionary.ensures c.in_err-head.ensures))

pub returns-in_err-listing-clause-refused : goal.returns-in_err-listing-clause-refused
returns-in_err-listing-clause-refused c =
    let q = err_from_is_err_and c.from_residual-in_err-listing.result c.from_residual-in_err-listing.ensures.1 in
    rw (q.1, q.2) (info_tree_refused _ c.if-not-is_dictionary.ensures c.in_ok-head.ensures c.in_err-listing.ensures)

pub torrent_of-requires-clause-lawful : goal.torrent_of-requires-clause-lawful
torrent_of-requires-clause-lawful c = info_lawful c.requires.ascending c.in_ok-head.ensures c.in_ok-listing.ensures

pub returns-in_err-torrent-clause-refused : goal.returns-in_err-torrent-clause-refused
returns-in_err-torrent-clause-refused c =
    let q = err_from_is_err_and c.from_residual-in_err-torrent.result c.from_residual-in_err-torrent.ensures.1 in
    rw q.1 (inl q.2)

pub returns-clause-faultless : goal.returns-clause-faultless
returns-clause-faultless c = info_faultless _ c.if-not-is_dictionary.ensures c.in_ok-head.ensures c.in_ok-listing.ensures

pub returns-clause-described : goal.returns-clause-described
returns-clause-described c =
    rw (
      metainfo_is no_dictionary _ c.in_ok-head.ensures c.in_ok-listing.ensures.files,
      c.in_ok-torrent.ensures,
      c.digest-infohash.ensures,
      c.requires.spelled,
    ) refl

pub returns-clause-lawful : goal.returns-clause-lawful
returns-clause-lawful c = rw c.in_ok-torrent.ensures (info_lawful c.requires.ascending c.in_ok-head.ensures c.in_ok-listing.ensures)
