use Rattle.bt_meta.proofs.Base.{ap, ◌∙◌, sha256, data_of}
use Rattle.bt_meta.proofs.ReadHead.{info_text, no_info_text}
use Rattle.bt_meta.proofs.reader.infohash_in.Goals as goal

pub unreachable-requires : goal.unreachable-requires
unreachable-requires c = no_info_text (data_of c.args.torrent.now) c.requires.there (rw c.in-None.is at c.field_text.ensures)

pub returns : goal.returns
returns c =
    c.digest.ensures
    ∙ ap sha256 (info_text (data_of c.args.torrent.now) c.in-Some.info.now c.requires.there (rw c.in-Some.is at c.field_text.ensures))
