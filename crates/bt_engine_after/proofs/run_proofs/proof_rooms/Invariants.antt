use Rattle.std.proofs.Common.{◌≡◌, length, All}
use Rattle.std.specs.List.{range_with_len}
use Rattle.bt_machine.specs.Adopting.{run_starts}
use Rattle.bt_engine_after.specs.RunProofsSteps.{HoldsAnswer}
use Rattle.bt_engine_after.proofs.run_proofs.proof_rooms.Given as goal

abbrev pub invariant-loop-offset : goal.invariant-loop-offset
invariant-loop-offset l = record {
  count : length l.rooms.items ≡ length (run_starts l.anchor (range_with_len l.group.first l.offset));
  rooms : All (λ room. HoldsAnswer l.anchor room.items) l.rooms.items;
}
