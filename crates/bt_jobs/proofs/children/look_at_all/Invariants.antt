-- The parts so far have been looked at.
use Rattle.std.proofs.Common.{◌+◌, ℕ, List}
use Rattle.bt_jobs.specs.Parts.{IsSeen}
use Rattle.bt_jobs.specs.PartsSteps.{IsAny, TurnAll}
use Rattle.bt_jobs.proofs.Turning.{TurnSome}
use Rattle.bt_jobs.proofs.children.look_at_all.Given as goal

abbrev pub invariant-loop-child : goal.invariant-loop-child
invariant-loop-child g l =
    ((text : List ℕ) (looks : ℕ) → TurnSome g.C.StartedPart.stands (IsSeen text looks) (IsSeen text (looks + 1)) l.child-index l.fn.children l.children)
    × TurnAll g.C.StartedPart.stands IsAny IsAny l.fn.children l.children
