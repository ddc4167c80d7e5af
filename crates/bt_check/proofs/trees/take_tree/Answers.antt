use Rattle.std.proofs.Common.{None, sym, ◌∙◌}
use Rattle.std.proofs.lemmas.Result.{IfOk-weaker}
use Rattle.bt_meta.specs.Files.{file_of}
use Rattle.bt_check.proofs.KeptTrees.{others_kept, kept_taken, new_taken}
use Rattle.bt_check.proofs.trees.take_tree.Goals as goal

pub returns-in-Some-clause-tree : goal.returns-in-Some-clause-tree
returns-in-Some-clause-tree c =
    kept_taken c.args.size.layer (file_of c.args.entry.now) c.key_of.result c.args.kept.now _ c.key_of.ensures (sym c.remove.ensures.value ∙ c.in-Some.is)

pub returns-in-Some-clause-kept : goal.returns-in-Some-clause-kept
returns-in-Some-clause-kept c = others_kept (file_of c.args.entry.now) c.key_of.result c.args.kept.now c.remove.new.self None c.key_of.ensures c.remove.ensures.updates

pub returns-in-None-clause-tree : goal.returns-in-None-clause-tree
returns-in-None-clause-tree c =
    IfOk-weaker c.known_tree.result _ _ (λ tree is.
    new_taken c.args.size.layer c.args.geometry (file_of c.args.entry.now) c.key_of.result c.args.kept.now tree c.key_of.ensures
    (sym c.remove.ensures.value ∙ c.in-None.is) c.requires.length is) c.known_tree.ensures

pub returns-in-None-clause-kept : goal.returns-in-None-clause-kept
returns-in-None-clause-kept c =
    IfOk-weaker c.known_tree.result _ _
    (λ tree is. others_kept (file_of c.args.entry.now) c.key_of.result c.args.kept.now c.remove.new.self None c.key_of.ensures c.remove.ensures.updates) c.known_tree.ensures
