use Rattle.std.proofs.Common.{◌-◌, Some, cond, map, sym, ap, ◌∙◌, subst, arith}
use Rattle.std.specs.BTreeMap.{get}
use Rattle.std.specs.Ordering.{is_eq}
use Rattle.std.proofs.lemmas.List.{length-map}
use Rattle.bt_meta.specs.Files.{file_of}
use Rattle.bt_check.specs.TreeSteps.{key_cmp}
use Rattle.bt_check.proofs.KeptTrees.{TellsLast, last_more, read_mapped, trees_begun}
use Rattle.bt_check.proofs.trees.SharedTrees.new.Goals as goal

pub loop-file-preserved : goal.loop-file-preserved
loop-file-preserved c =
    let l = c.loop-file in
    let files = c.args.files.now in
    let old = l.last in
    record {
      count = omega (arith, l.invariant.count, c.loop-file-test.true);
      told = last_more (map file_of files) l.file-index _ old c.insert.new.self (file_of c.file-item.result)
          (read_mapped file_of files l.file-index c.file-item.result c.loop-file-test.true c.file-item.is)
          (omega (arith, l.invariant.count, c.loop-file-test.true, length-map files file_of))
          (λ k. c.in_ok-insert.ensures.updates.0 k ∙ ap (λ q. cond (is_eq (key_cmp q k)) (Some (l.left - 1)) (get key_cmp old k)) c.key_of.ensures)
          l.invariant.told;
    }

pub returns : goal.returns
returns c = λ layer.
    let l = c.loop-file in
    let files = c.args.files.now in
    let whole = length-map files file_of in
    trees_begun layer (map file_of files) _ (sym whole) c.new.ensures.empty
    (subst (λ m. TellsLast (map file_of files) m l.last) (omega (arith, whole, c.loop-file-test.false, l.auto.file-index-end)) l.invariant.told)
