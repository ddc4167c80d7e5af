-- The parts so far are over.
use Rattle.bt_jobs.specs.Parts.{IsOver}
use Rattle.bt_jobs.specs.PartsSteps.{IsAny}
use Rattle.bt_jobs.proofs.Turning.{TurnSome}
use Rattle.bt_jobs.proofs.children.end_all.Given as goal

abbrev pub invariant-loop-child : goal.invariant-loop-child
invariant-loop-child g l = TurnSome g.C.StartedPart.stands IsAny IsOver l.child-index l.fn.children l.children
