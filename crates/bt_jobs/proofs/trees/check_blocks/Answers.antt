use Rattle.std.proofs.Common.{◌≡◌, ap, arith}
use Rattle.bt_tree.specs.Blocks.{block_count}
use Rattle.bt_check.proofs.EntryChecks.{unshaped}
use Rattle.bt_jobs.proofs.PartTrees.{nothing_checked}
use Rattle.bt_jobs.proofs.trees.check_blocks.Goals as goal

pub returns-in-None-clause-told : goal.returns-in-None-clause-told
returns-in-None-clause-told g c =
    let d = g.D.Disk in
    let part = c.args.part in
    let empty : block_count part.file.now.length ≡ 0 = ap block_count (unshaped part.file.now.length c.requires.ready.checkable.short c.in-None.ensures.lawful.1) in
    nothing_checked d.conduct c.args.size.layer part c.args.disk c.args.kept.now _ c.requires.ready.forward
    (omega (arith, c.requires.ready.inside, empty))
