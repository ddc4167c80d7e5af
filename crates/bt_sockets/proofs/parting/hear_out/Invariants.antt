-- What is left of the bytes that may be taken, and what was taken.
use Rattle.std.proofs.Common.{◌≤◌, ◌-◌}
use Rattle.bt_sockets.specs.PartingSteps.{LosesAtMost}
use Rattle.bt_sockets.proofs.parting.hear_out.Given as goal

abbrev pub invariant-loop : goal.invariant-loop
invariant-loop g l = record {
  within : l.left ≤ 65536;
  lost : LosesAtMost (65536 - l.left) (g.S.Read.remaining l.initial.stream) (g.S.Read.remaining l.stream);
}
