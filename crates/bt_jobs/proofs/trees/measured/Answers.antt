use Rattle.std.proofs.Common.{sym, subst}
use Rattle.bt_jobs.specs.TreesSteps.{IsMeasured}
use Rattle.bt_jobs.proofs.PartTrees.{too_long, unmeasured}
use Rattle.bt_parts.specs.declared.run.Met.TheVariants.{Longer, Unmeasured}
use Rattle.bt_jobs.proofs.trees.measured.Goals as goal

pub returns-in-Some : goal.returns-in-Some
returns-in-Some c =
    subst (λ l. IsMeasured c.args.file_length l Longer) (sym c.in-Some.is) (too_long c.args.file_length c.in-Some.length c.if-length-file_length.true)

pub returns-in-None : goal.returns-in-None
returns-in-None c = subst (λ l. IsMeasured c.args.file_length l Unmeasured) (sym c.in-None.is) (unmeasured c.args.file_length)
