use Rattle.std.proofs.Common.{None, refl, sym, ap, ◌∙◌, inl, inr}
use Rattle.std.specs.BTreeMap.{get}
use Rattle.bt_meta.specs.Files.{file_of}
use Rattle.bt_check.specs.Check.{are_twins}
use Rattle.bt_check.specs.TreeSteps.{key_cmp}
use Rattle.bt_check.proofs.RightBlocks.{cases_bool}
use Rattle.bt_check.proofs.KeptTrees.{others_kept}
use Rattle.bt_check.proofs.trees.SharedTrees.let_go.Goals as goal

pub returns-clause-goes : goal.returns-clause-goes
returns-clause-goes c = (
  refl,
  refl,
  λ other. elim (cases_bool (are_twins (file_of c.args.entry.now) other)) [
    | inr apart ↦ inl (others_kept (file_of c.args.entry.now) c.key_of.result c.args.self.now.kept c.remove.new.self None c.key_of.ensures c.remove.ensures.updates other apart)
    | inl same ↦ inr (same, c.is_last.ensures.0 c.if-not-is_last.false)
  ],
)

pub returns-clause-gone : goal.returns-clause-gone
returns-clause-gone c = λ last. ap (λ q. get key_cmp c.remove.new.self q) (sym c.key_of.ensures) ∙ c.remove.ensures.updates.1
