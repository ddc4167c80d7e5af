use Rattle.std.proofs.Common.{refl, arith}
use Rattle.bt_meta.specs.Files.{file_of}
use Rattle.bt_check.proofs.KeptTrees.{first_has, next_trees}
use Rattle.bt_check.proofs.trees.SharedTrees.check.Goals as goal

pub check_file-requires-clause-tree : goal.check_file-requires-clause-tree
check_file-requires-clause-tree g c = (c.requires.trees.0, first_has c.requires.trees.2)

pub finish-requires : goal.finish-requires
finish-requires g c = omega (arith, c.requires.trees.2.count)

pub returns : goal.returns
returns g c = λ before rest keeps.
    let made = c.in_ok-finding.ensures before (first_has keeps) in (
      made.0,
      made.1,
      next_trees c.args.size.layer before made.0 (file_of c.args.entry.now) rest c.args.self.now _ _ keeps refl (omega (arith, keeps.count)) made.2 c.finish.ensures.goes,
    )
