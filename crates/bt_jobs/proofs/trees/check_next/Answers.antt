use Rattle.std.proofs.Common.{refl, arith}
use Rattle.bt_jobs.specs.Trees.{file_in_part}
use Rattle.bt_jobs.proofs.PartTrees.{first_part, next_part}
use Rattle.bt_jobs.proofs.trees.check_next.Goals as goal

pub check_file-requires-clause-tree : goal.check_file-requires-clause-tree
check_file-requires-clause-tree g c =
    let t = c.requires.trees in
    let first = first_part t.3 t.4 in
    (t.1, first.0, first.1)

pub finish-requires : goal.finish-requires
finish-requires g c = omega (arith, c.requires.trees.3.kept.count)

pub returns-clause-told : goal.returns-clause-told
returns-clause-told g c = λ layer_at before rest keeps roots.
    let d = g.D.Disk in
    let part = c.args.opened.part in
    let first = first_part keeps roots in
    let made = c.in_ok-check_file.ensures.told before first.0 first.1 in (
      made.0,
      made.1,
      made.2,
      made.3,
      next_part d.conduct c.args.size.layer layer_at before made.1 (file_in_part part) part.share made.0 c.args.opened.disk rest c.args.trees.now _ _ keeps
          roots refl (omega (arith, keeps.kept.count)) made.3 made.4 c.finish.ensures.goes,
      made.5,
    )
