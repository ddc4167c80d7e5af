use Rattle.std.proofs.Common.{sym, subst}
use Rattle.std.proofs.lemmas.Result.{IfOk-weaker}
use Rattle.bt_make.specs.AtomicFileSteps.{IsSibling, alone}
use Rattle.bt_make.proofs.AtomicFilePath.{sibling_in}
use Rattle.bt_make.proofs.atomic_file.sibling.Goals as goal

pub returns-in-Some : goal.returns-in-Some
returns-in-Some c =
    let split = c.in-Some.ensures.cases in
    IfOk-weaker c.format.result _ _
    (λ s h. sibling_in c.args.path.now c.args.name.now split.0 split.1 c.in-Some.folder.now _ split.3 split.2.1 split.2.0 h) c.format.ensures.ok

pub returns-in-None : goal.returns-in-None
returns-in-None c = IfOk-weaker c.from_str.result _ _
    (λ s h. subst (IsSibling c.args.path.now c.args.name.now) (sym h) (alone c.in-None.ensures.cases)) c.from_str.ensures.ok
