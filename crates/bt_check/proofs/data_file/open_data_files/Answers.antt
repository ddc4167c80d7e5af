use Rattle.std.proofs.Common.{arith}
use Rattle.std.proofs.lemmas.Grind.{common_steps}
use Rattle.std.proofs.lemmas.List.Elements.{All-push, All-same}
use Rattle.bt_check.specs.DataFile.{IsAtPath}
use Rattle.bt_check.proofs.PoolNumbers.{numbers_go_on}
use Rattle.bt_check.proofs.data_file.open_data_files.Goals as goal

pub loop-file-preserved : goal.loop-file-preserved
loop-file-preserved g c =
    let there = c.in_ok-disk.ensures.path in
    let in_turn = c.loop-file.invariant.0 in (
      grind (arith, common_steps, in_turn),
      All-same (IsAtPath c.args.dir.now) _ _ c.in_ok-push.ensures.items (All-push (IsAtPath c.args.dir.now) _ _ c.loop-file.invariant.1 there),
      numbers_go_on _ _ _ _ _ c.in_ok-push.ensures.items c.loop-file.invariant.2 c.in_ok-disk.ensures.next,
    )
