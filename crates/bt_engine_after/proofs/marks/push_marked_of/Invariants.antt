use Rattle.std.proofs.Common.{◌≡◌, ◌+◌, ◌*◌, ◌≤◌}
use Rattle.std.specs.Prelude.{filter}
use Rattle.std.specs.List.{range_with_len}
use Rattle.bt_store.specs.Review.{is_marked_at}
use Rattle.bt_machine.specs.Hints.{add_hints}
use Rattle.bt_engine_after.specs.MarksSteps.{marks_in, run_blocks}
use Rattle.bt_engine_after.proofs.marks.push_marked_of.Given as goal

abbrev pub invariant-loop-offset : goal.invariant-loop-offset
invariant-loop-offset g l = record {
  hints : add_hints l.pending.hints (marks_in l.file (run_blocks l.marked))
      ≡ add_hints l.fn.pending.hints (marks_in l.file (filter (is_marked_at l.store.states) (range_with_len l.run.first l.offset)));
  ends : l.marked.first + l.marked.count ≡ l.run.first + l.offset;
  room : 2 * l.fn.pending.room + l.marked.count ≤ 2 * l.pending.room + l.offset;
}
