use Rattle.std.proofs.Common.{◌≡◌, ◌+◌, ◌≤◌, take, flat_map}
use Rattle.std.specs.Prelude.{filter}
use Rattle.bt_store.specs.Review.{is_marked_at}
use Rattle.bt_machine.specs.Hints.{add_hints}
use Rattle.bt_engine_after.specs.MarksSteps.{marks_in, run_blocks, most_hints}
use Rattle.bt_engine_after.proofs.marks.push_marked_in.Given as goal

abbrev pub invariant-loop-run : goal.invariant-loop-run
invariant-loop-run g l = record {
  hints : l.pending.hints ≡ add_hints l.fn.pending.hints (marks_in l.file (filter (is_marked_at l.store.states) (flat_map run_blocks (take l.run-index l.runs))));
  room : l.fn.pending.room ≤ l.pending.room + most_hints (take l.run-index l.runs);
}
