use Rattle.std.proofs.Common.{sym, subst}
use Rattle.std.specs.Prelude.{IfOk, IfNone}
use Rattle.bt_replay.specs.Field.{fields_in}
use Rattle.bt_replay.specs.Line.{Makes}
use Rattle.bt_replay.specs.declared.line.Line.{Line}
use Rattle.bt_replay.proofs.line.line_with.Goals as goal

pub returns-in-Torrent-clause-none : goal.returns-in-Torrent-clause-none
returns-in-Torrent-clause-none c =
    subst (λ w. IfOk c.torrent_line.result (λ found. IfNone found ((line : Line) → ¬ Makes w (fields_in c.args.rest) line)))
    (sym c.in-Torrent.is) c.torrent_line.ensures.none

pub returns-in-Feed-clause-none : goal.returns-in-Feed-clause-none
returns-in-Feed-clause-none c =
    subst (λ w. IfOk c.feed_line.result (λ found. IfNone found ((line : Line) → ¬ Makes w (fields_in c.args.rest) line)))
    (sym c.in-Feed.is) c.feed_line.ensures.none
