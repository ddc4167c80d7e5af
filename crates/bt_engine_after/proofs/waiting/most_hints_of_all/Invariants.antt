use Rattle.std.proofs.Common.{◌≡◌, ◌*◌, ◌≤◌, take}
use Rattle.bt_tree.specs.Limits.{max_block_count}
use Rattle.bt_engine_after.specs.WaitingSteps as steps
use Rattle.bt_engine_after.proofs.waiting.most_hints_of_all.Given as goal

abbrev pub invariant-loop-one : goal.invariant-loop-one
invariant-loop-one l = record {
  hints : l.hints ≡ steps.most_hints_of_all (take l.one-index l.listed);
  few : l.hints ≤ l.one-index * max_block_count;
}
