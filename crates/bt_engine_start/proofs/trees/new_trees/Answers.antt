use Rattle.std.proofs.Common.{[], ◌∷◌, List, length, refl, ap, ◌∙◌, arith}
use Rattle.std.proofs.lemmas.List.{length-append}
use Rattle.bt_sparse.specs.SparseTree.{Facts}
use Rattle.bt_engine_start.proofs.RootTrees.{lawful_file, first_below, first_read, first_some, tree_pushed}
use Rattle.bt_engine_start.proofs.trees.new_trees.Goals as goal

pub bounds-files-number : goal.bounds-files-number
bounds-files-number g c = first_below c.files-files.result.now c.args.first_files.now c.files-files.ensures.said c.requires.firsts c.loop-number.number-index c.loop-number-test.true

pub unreachable-requires : goal.unreachable-requires
unreachable-requires g c =
    let said = c.files-files.ensures.said in
    let entry = c.index-files-number.result in
    let read = first_read c.files-files.result.now c.args.first_files.now said c.requires.firsts c.loop-number.number-index c.loop-number-test.true entry c.index-files-number.is in
    let some = first_some c.files-files.result.now c.args.first_files.now said c.requires.firsts c.loop-number.number-index c.loop-number-test.true entry c.index-files-number.is in
    let short = (lawful_file c.keeps_laws.ensures.lawful _ read).short in
    let clash = c.in_default.ensures.lawful.1 (record { some = some; limit = short }) in
    cc

pub new_tree-requires-clause-lawful : goal.new_tree-requires-clause-lawful
new_tree-requires-clause-lawful g c =
    lawful_file c.keeps_laws.ensures.lawful _
    (first_read c.files-files.result.now c.args.first_files.now c.files-files.ensures.said c.requires.firsts c.loop-number.number-index c.loop-number-test.true c.index-files-number.result c.index-files-number.is)

pub loop-number-preserved : goal.loop-number-preserved
loop-number-preserved g c =
    let l = c.loop-number in
    record {
      count = ap (λ (ks : List Facts). length ks) c.in_ok-push.ensures.items ∙ omega (arith, length-append l.trees.items (c.in_ok-new_tree.field-0 ∷ []), l.invariant.count);
      each = tree_pushed c.files-files.result.now c.args.first_files.now c.files-files.ensures.said c.requires.firsts l.number-index c.loop-number-test.true c.index-files-number.result c.index-files-number.is
          l.trees.items refl l.invariant.count l.invariant.each c.in_ok-new_tree.ensures c.in_ok-push.ensures.items;
    }
