use Rattle.std.proofs.lemmas.Result.{IfOk-weaker}
use Rattle.bt_meta.specs.Files.{file_of}
use Rattle.bt_check.proofs.KnownTree.{told_known}
use Rattle.bt_check.proofs.entry_check.known_tree.Goals as goal

pub from_torrent-requires : goal.from_torrent-requires
from_torrent-requires c = rw (c.deref.ensures.value, c.requires.length) c.requires.checkable.layered

pub returns : goal.returns
returns c =
    IfOk-weaker c.from_torrent.result _ _ (λ tree told. told_known c.args.geometry c.args.size.layer (file_of c.args.entry.now) tree c.requires.length c.requires.lawful told)
    (rw c.deref.ensures.value at c.from_torrent.ensures)
