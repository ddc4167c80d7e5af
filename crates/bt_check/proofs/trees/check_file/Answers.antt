use Rattle.std.proofs.Common.{None, refl, sym, subst}
use Rattle.std.proofs.lemmas.Result.{IfOk-weaker}
use Rattle.bt_meta.specs.Files.{file_of}
use Rattle.bt_check.specs.Check.{IsFileFinding, absent, layer_before, leaves_before}
use Rattle.bt_check.proofs.EntryChecks.{absent_found}
use Rattle.bt_check.proofs.KeptTrees.{absent_checked, checked_with}
use Rattle.bt_check.proofs.trees.check_file.Goals as goal

pub returns-in-Some : goal.returns-in-Some
returns-in-Some g c = IfOk-weaker c.check_present.result _ _ (λ finding checks. checked_with c.in-Some.is checks) c.check_present.ensures

pub returns-in-None : goal.returns-in-None
returns-in-None g c =
    let file = file_of c.args.entry.now in
    let layer = c.args.size.layer in
    absent_checked c.in-None.is
    (λ before. subst (λ finding. IsFileFinding g.D.Disk.conduct layer before file finding None before) (sym c.absent_finding.ensures)
    (absent (absent_found file.length (layer_before layer before file) (leaves_before layer before file) _ refl) refl))
