use Rattle.std.proofs.Common.{◌≡◌, ◌+◌, ◌≤◌, take, map}
use Rattle.std.specs.Prelude.{filter}
use Rattle.bt_machine.specs.Hints.{mark_of, add_hints}
use Rattle.bt_engine_state.specs.Parts.{file_of}
use Rattle.bt_engine_after.specs.WaitingSteps.{is_marked_among, listed_blocks, most_hints_of_all}
use Rattle.bt_engine_after.proofs.waiting.push_settled.Given as goal

abbrev pub invariant-loop-one : goal.invariant-loop-one
invariant-loop-one g l = record {
  hints : l.pending.hints ≡ add_hints l.fn.pending.hints
      (map (λ b. mark_of b) (filter (is_marked_among (map file_of l.slots)) (listed_blocks (take l.one-index l.listed))));
  room : l.fn.pending.room ≤ l.pending.room + most_hints_of_all (take l.one-index l.listed);
}
