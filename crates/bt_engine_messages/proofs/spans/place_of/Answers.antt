use Rattle.bt_engine_messages.proofs.SpanReads.{place_is_short}
use Rattle.std.proofs.Common.{subst}
use Rattle.std.specs.List.{All}
use Rattle.bt_meta.specs.Torrent.{IsLawfulFile}
use Rattle.bt_engine_messages.proofs.spans.place_of.Goals as goal

pub returns-clause-short : goal.returns-clause-short
returns-clause-short c =
    let t = c.args.torrent.now in
    let lawful = subst (λ files. All (IsLawfulFile t.piece_length) files) c.files.ensures.said c.files.ensures.lawful in
    place_is_short t c.args.ask.piece c.args.ask.begin c.args.ask.length c.place.result lawful c.place.ensures.some
