use Rattle.std.proofs.Common.{◌≡◌, ◌+◌, ◌≤◌, List, length, All}
use Rattle.std.specs.List.{AllZip, range_with_len}
use Rattle.bt_resume.specs.declared.hint.Hint.{Hint}
use Rattle.bt_machine.specs.Hints.{add_hints}
use Rattle.bt_machine.specs.Adopting.{run_starts, IsProof}
use Rattle.bt_engine_after.specs.RunProofsSteps.{run_keys, HoldsAnswer}
use Rattle.bt_engine_after.proofs.run_proofs.push_proofs.Given as goal

abbrev pub invariant-loop-offset : goal.invariant-loop-offset
invariant-loop-offset g l = record {
  proofs : (proofs : List Hint) × AllZip (IsProof g.H.NodeHash.digest l.tree) (run_keys l.tree l.anchor (range_with_len l.group.first l.offset)) proofs
      × (l.pending.hints ≡ add_hints l.fn.pending.hints proofs);
  left : length l.rooms.items + length (run_starts l.anchor (range_with_len l.group.first l.offset))
      ≡ length (run_starts l.anchor (range_with_len l.group.first l.group.count));
  rooms : All (λ room. HoldsAnswer l.anchor room.items) l.rooms.items;
  room : l.fn.pending.room + length l.rooms.items ≤ l.pending.room + length l.fn.rooms.items;
}
