-- What is left of the bytes, and what was noted so far.
use Rattle.std.proofs.Common.{length}
use Rattle.bt_sockets.specs.TimingSteps.{HavePassedOut}
use Rattle.bt_sockets.proofs.timing.Times.pass_out.Given as goal

abbrev pub invariant-passing : goal.invariant-passing
invariant-passing l = HavePassedOut l.now l.initial.self l.bytes l.rest l.self

abbrev pub decreases-passing : goal.decreases-passing
decreases-passing l = length l.rest
