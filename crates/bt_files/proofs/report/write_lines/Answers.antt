use Rattle.std.proofs.Common.{refl, ap, subst, ◌∙◌}
use Rattle.std.specs.Io.KnownBytes.{Appends}
use Rattle.std.proofs.lemmas.Option.{slice_get_read}
use Rattle.bt_files.proofs.ReportLines.{all_lines, line_more}
use Rattle.bt_files.proofs.report.write_lines.Goals as goal

pub loop-number-preserved : goal.loop-number-preserved
loop-number-preserved g c =
    line_more c.args.engine.now.state c.files-file-items.result.now c.loop-number.number c.file-item.result c.finding_at-finding.result
    (g.W.Write.contents c.args.writer.now) (g.W.Write.contents c.loop-number.writer) (g.W.Write.contents c.write_line.new.writer)
    (c.files-file-items.ensures.said ∙ ap (λ t. t.files) c.torrent.ensures)
    (slice_get_read _ _ _ _ refl c.loop-number-test.true c.file-item.is) c.finding_at-finding.ensures c.loop-number.invariant
    c.in_ok-write_line.ensures.text

pub returns-clause-text : goal.returns-clause-text
returns-clause-text g c =
    subst (Appends (g.W.Write.contents c.args.writer.now) (g.W.Write.contents c.loop-number.writer))
    (all_lines c.args.engine.now.state c.files-file-items.result.now c.loop-number.number
    (c.files-file-items.ensures.said ∙ ap (λ t. t.files) c.torrent.ensures) c.loop-number-test.false) c.loop-number.invariant
