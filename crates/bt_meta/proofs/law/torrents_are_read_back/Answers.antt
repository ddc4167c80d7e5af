use Rattle.bt_meta.proofs.LawReadBack.{one_torrent, refused_for_memory}
use Rattle.bt_meta.proofs.law.torrents_are_read_back.Goals as goal

pub returns : goal.returns
returns c = record { one_torrent = one_torrent; refused_for_memory = refused_for_memory }
