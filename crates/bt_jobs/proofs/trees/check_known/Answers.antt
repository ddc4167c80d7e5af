use Rattle.std.proofs.Common.{◌<◌, sym, ◌∙◌, subst, inr, arith}
use Rattle.bt_check.proofs.KeptTrees.{others_after, others_kept, put_at, tree_kept}
use Rattle.bt_jobs.specs.Share.{IsPieceEdge}
use Rattle.bt_jobs.specs.Trees.{answers_of, file_in_part}
use Rattle.bt_jobs.proofs.PartTrees.{nothing_checked, ready_at, share_at}
use Rattle.bt_jobs.proofs.trees.check_known.Goals as goal

pub check_share-requires-clause-ready : goal.check_share-requires-clause-ready
check_share-requires-clause-ready g c =
    let part = c.args.part in
    let file = file_in_part part in
    let some : 0 < part.file.now.length = omega (arith, c.requires.lawful.some, c.requires.length) in
    ready_at (c.in_ok-tree.ensures.tree c.requires.tree.0 c.requires.tree.1 some)
    (subst (λ known. IsPieceEdge known file.length part.share.from) (sym c.requires.tree.2) c.requires.ready.edge)

pub returns-then-part-clause-told : goal.returns-then-part-clause-told
returns-then-part-clause-told g c =
    let d = g.D.Disk in
    nothing_checked d.conduct c.args.size.layer c.args.part c.args.disk c.args.kept.now _ c.requires.ready.forward c.if-part.true

pub returns-clause-told : goal.returns-clause-told
returns-clause-told g c = λ before has own.
    let part = c.args.part in
    let file = file_in_part part in
    let layer = c.args.size.layer in
    let edge = subst (λ known. IsPieceEdge known file.length part.share.from) (sym own) c.requires.ready.edge in
    let some : 0 < part.file.now.length = omega (arith, c.requires.lawful.some, c.requires.length) in
    let done = share_at part.share _ _ c.in_ok-check_share.ensures.checked (c.in_ok-tree.ensures.tree before has some) edge in (
      done.0,
      done.1,
      c.in_ok-check_share.field-0,
      done.2,
      done.3,
      λ len. inr (others_after layer before file (answers_of file.length part.share len done.0) c.args.kept.now c.insert.new.self
          (tree_kept layer file c.args.kept.now c.insert.new.self before (answers_of file.length part.share len done.0) _
          (put_at file c.key_of.result c.take_tree.new.kept c.insert.new.self _ c.key_of.ensures c.in_ok-insert.ensures.updates) done.4)
          (λ other apart. others_kept file c.key_of.result c.take_tree.new.kept c.insert.new.self _ c.key_of.ensures c.in_ok-insert.ensures.updates other apart
          ∙ c.in_ok-tree.ensures.kept other apart)),
      done.5,
    )
