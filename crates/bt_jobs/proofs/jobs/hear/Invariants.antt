-- The bytes so far were taken in, and the parts looked at.
use Rattle.bt_jobs.specs.JobsSteps.{AreWatched}
use Rattle.bt_jobs.specs.PartsSteps.{IsAny, TurnAll}
use Rattle.bt_jobs.proofs.Hearing.{Hears}
use Rattle.bt_jobs.proofs.jobs.hear.Given as goal

abbrev pub invariant-loop : goal.invariant-loop
invariant-loop g l = record {
  heard : Hears (g.I.Read.remaining l.initial.output) (g.I.Read.remaining l.output) l.initial.told l.told;
  watched : AreWatched g.C.StartedPart.stands 4096 (g.I.Read.remaining l.initial.output) (g.I.Read.remaining l.output) l.initial.children l.children;
  kept : TurnAll g.C.StartedPart.stands IsAny IsAny l.initial.children l.children;
}
