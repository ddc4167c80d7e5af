-- Nobody comes, and it is not waited as a swarm waits.
use Rattle.std.proofs.Common.{◌≡◌}
use Rattle.bt_gate.proofs.gate.TcpGate.take_leave.Given as goal

abbrev pub invariant-loop : goal.invariant-loop
invariant-loop g l = l.self ≡ l.initial.self
