use Rattle.std.proofs.Common.{◌≡◌, ◌≤◌}
use Rattle.arrayvec.specs.ArrayVec.{array_vec_len}
use Rattle.bt_engine_after.specs.MarksSteps as steps
use Rattle.bt_engine_after.proofs.marks.unmarked_blocks.Given as goal

abbrev pub invariant-loop-offset : goal.invariant-loop-offset
invariant-loop-offset g l = record {
  blocks : l.blocks.items ≡ steps.unmarked_blocks l.store.states l.run.first l.offset;
  few : array_vec_len l.blocks ≤ l.offset;
}
