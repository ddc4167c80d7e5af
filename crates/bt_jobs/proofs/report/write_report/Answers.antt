use Rattle.std.proofs.Common.{map, take, take_all, subst, ap, refl, arith}
use Rattle.bt_meta.specs.Files.{file_of}
use Rattle.bt_jobs.specs.Report.{finding_of}
use Rattle.bt_jobs.proofs.Reports.{IsTelling, all_told, telling_begun, told_next}
use Rattle.bt_jobs.proofs.report.write_report.Goals as goal

pub loop-number-init : goal.loop-number-init
loop-number-init g c = telling_begun _ _ refl refl

pub loop-number-preserved : goal.loop-number-preserved
loop-number-preserved g c =
    told_next c.args.files.now c.args.heard.now c.loop-number.number c.index-files-number.result _
    (record { file = record { ref_ptr = (0, 0); now = c.index-files-number.result }; finding = _ }) c.loop-number.summary _ _ _ _ c.loop-number-test.true
    (omega (arith, c.loop-number-test.true, c.requires)) c.index-files-number.is c.loop-number.invariant refl refl c.with-summary.ensures.complete
    c.with-summary.ensures.faulty c.in_ok-write_line.ensures.text

pub returns-clause-report : goal.returns-clause-report
returns-clause-report g c =
    let files = c.args.files.now in
    let heard = c.args.heard.now in
    let number = c.loop-number.number in
    all_told (map file_of files) (map finding_of heard) c.loop-number.summary _ _ _ _
    (subst (λ fs. IsTelling fs (map finding_of heard) c.loop-number.summary (g.W.Write.contents c.args.writer.now) (g.W.Write.contents c.loop-number.writer))
    (ap (map file_of) (take_all number files (omega (arith, c.loop-number-test.false))))
    (subst (λ fs. IsTelling (map file_of (take number files)) fs c.loop-number.summary (g.W.Write.contents c.args.writer.now)
    (g.W.Write.contents c.loop-number.writer)) (ap (map finding_of) (take_all number heard (omega (arith, c.loop-number-test.false, c.requires))))
    c.loop-number.invariant)) c.last_words.ensures c.in_ok-print.ensures.text
