use Rattle.std.proofs.Common.{◌≡◌, take}
use Rattle.bt_engine_after.specs.MarksSteps as steps
use Rattle.bt_engine_after.proofs.marks.most_hints.Given as goal

abbrev pub invariant-loop-run : goal.invariant-loop-run
invariant-loop-run l = l.hints ≡ steps.most_hints (take l.run-index l.runs)
