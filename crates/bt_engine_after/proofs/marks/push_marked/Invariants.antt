use Rattle.std.proofs.Common.{◌≡◌, ◌+◌, ◌≤◌, length, take}
use Rattle.std.specs.Prelude.{filter}
use Rattle.bt_store.specs.Review.{is_marked_at}
use Rattle.bt_machine.specs.Hints.{add_hints}
use Rattle.bt_engine_after.specs.MarksSteps.{marks_in}
use Rattle.bt_engine_after.proofs.marks.push_marked.Given as goal

abbrev pub invariant-loop-block : goal.invariant-loop-block
invariant-loop-block g l = record {
  hints : l.pending.hints ≡ add_hints l.fn.pending.hints (marks_in l.file (filter (is_marked_at l.store.states) (take l.block-index l.blocks)));
  room : length l.blocks ≤ l.pending.room + l.block-index;
}
