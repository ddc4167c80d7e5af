use Rattle.std.proofs.Common.{sym, ap, subst, ◌∙◌, flat_map}
use Rattle.std.proofs.lemmas.Iterator.{YieldsList-from_chars}
use Rattle.std.proofs.lemmas.Iterator.Consumers.{YieldsList-end}
use Rattle.std.proofs.lemmas.List.{map-id}
use Rattle.std.specs.Io.KnownBytes.{Appends}
use Rattle.bt_progress.specs.Escape.{char_of_lines}
unfoldable use Rattle.bt_progress.specs.Escape.{escaped_lines_text}
use Rattle.bt_progress.proofs.escape.write_escaped_lines.Goals as goal

pub returns : goal.returns
unfolding escaped_lines_text
returns g c =
    let all = YieldsList-end (YieldsList-from_chars c.args.text.now c.utf8.text cc) c.loop-letter.yielded _ c.loop-letter.yielded_by _ _ c.in-None.is c.next.ensures.steps in
    subst (Appends (g.W.Write.contents c.args.writer.now) (g.W.Write.contents c.loop-letter.writer))
    (ap (flat_map char_of_lines) (sym (map-id c.loop-letter.yielded) ∙ all.0)) c.loop-letter.invariant
