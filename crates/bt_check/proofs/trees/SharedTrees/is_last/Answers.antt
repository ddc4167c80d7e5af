use Rattle.std.proofs.Common.{ap, sym, ◌∙◌}
use Rattle.std.specs.BTreeMap.{get}
use Rattle.bt_meta.specs.Files.{file_of}
use Rattle.bt_check.specs.TreeSteps.{key_cmp}
use Rattle.bt_check.proofs.KeptTrees.{tells_last, tells_none}
use Rattle.bt_check.proofs.trees.SharedTrees.is_last.Goals as goal

pub returns-in-Some : goal.returns-in-Some
returns-in-Some c =
    tells_last c.args.self.now (file_of c.args.entry.now) c.in-Some.behind.now
    (ap (λ q. get key_cmp c.args.self.now.last q) (sym c.key_of.ensures) ∙ sym c.in-Some.ensures.value)

pub returns-in-None : goal.returns-in-None
returns-in-None c =
    tells_none c.args.self.now (file_of c.args.entry.now)
    (ap (λ q. get key_cmp c.args.self.now.last q) (sym c.key_of.ensures) ∙ sym c.in-None.ensures.value)
