use Rattle.std.proofs.Common.{◌≡◌, ◌+◌, ◌++◌, flat_map}
use Rattle.bt_engine_after.specs.MarksSteps.{blocks_of_kind, run_blocks, AreRuns, EndBefore}
use Rattle.bt_engine_after.proofs.marks.runs_of.Given as goal

abbrev pub invariant-loop-offset : goal.invariant-loop-offset
invariant-loop-offset g l = record {
  blocks : flat_map run_blocks l.runs.items ++ run_blocks l.current ≡ blocks_of_kind l.kind l.store.states l.run.first l.offset;
  runs : AreRuns l.runs.items;
  before : EndBefore l.current.first l.runs.items;
  ends : l.current.first + l.current.count ≡ l.run.first + l.offset;
}
