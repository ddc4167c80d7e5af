use Rattle.std.proofs.Common.{map, sym, subst, refl}
use Rattle.std.specs.List.{All}
use Rattle.std.proofs.lemmas.List.Elements.{All-head}
use Rattle.bt_check.specs.EntryCheck.{IsCheckable}
use Rattle.bt_check.specs.DataFile.{file_at}
use Rattle.bt_check.specs.TreeSteps.{KeepsTrees}
use Rattle.bt_check.specs.declared.report.FileFinding.{FileFinding}
use Rattle.bt_check.proofs.ReportLines.{IsReporting, reporting_begun, reporting_more}
use Rattle.bt_check.proofs.check.check_each.Goals as goal

pub loop-file-init : goal.loop-file-init
loop-file-init g c =
    let old = g.W.Write.contents c.args.writer.now in
    subst (λ left. IsReporting g.D.Disk.conduct c.args.size.layer c.args.files.items left c.args.trees.now _ old old)
    (sym c.into_iter-file-iterator.ensures.into_iter_gives.0)
    (reporting_begun g.D.Disk.conduct c.args.size.layer c.args.files.items c.args.trees.now old c.requires.checkable c.requires.trees)

pub check-requires-clause-checkable : goal.check-requires-clause-checkable
check-requires-clause-checkable g c =
    All-head (IsCheckable c.args.size.layer) (file_at c.in-Some.field-0) _
    (subst (λ left. All (IsCheckable c.args.size.layer) (map file_at left)) c.in-Some.ensures.steps.0 c.loop-file.invariant.checkable)

pub check-requires-clause-trees : goal.check-requires-clause-trees
check-requires-clause-trees g c = (
  c.loop-file.invariant.checked,
  _,
  subst (λ left. KeepsTrees c.args.size.layer c.loop-file.invariant.checked (map file_at left) c.loop-file.trees) c.in-Some.ensures.steps.0
      c.loop-file.invariant.keeps,
)

pub loop-file-preserved : goal.loop-file-preserved
loop-file-preserved g c =
    let one : FileFinding = record { file = c.in-Some.field-0.file; finding = c.in_ok-finding.finding } in
    reporting_more g.D.Disk.conduct c.args.size.layer c.args.files.items _ _ c.in-Some.field-0 c.loop-file.trees _ c.loop-file.summary _ one _ _ _
    c.loop-file.invariant c.in-Some.ensures.steps.0 refl c.in_ok-finding.ensures c.with-summary.ensures.complete c.with-summary.ensures.faulty
    c.in_ok-write_line.ensures.text
