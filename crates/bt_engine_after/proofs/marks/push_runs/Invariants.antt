use Rattle.std.proofs.Common.{◌≡◌, ◌+◌, ◌≤◌, take, flat_map}
use Rattle.bt_machine.specs.Hints.{add_hints}
use Rattle.bt_engine_after.specs.MarksSteps.{marks_in, run_blocks}
use Rattle.bt_engine_after.proofs.marks.push_runs.Given as goal

abbrev pub invariant-loop-run : goal.invariant-loop-run
invariant-loop-run l = record {
  hints : l.pending.hints ≡ add_hints l.fn.pending.hints (marks_in l.file (flat_map run_blocks (take l.run-index l.runs)));
  room : l.fn.pending.room ≤ l.pending.room + l.run-index;
}
