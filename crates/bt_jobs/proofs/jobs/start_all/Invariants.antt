-- The parts so far are started, one by each command.
use Rattle.std.proofs.Common.{vec_capacity}
use Rattle.std.specs.Vec.Iter.{into_iter_items}
use Rattle.bt_jobs.proofs.Starting.{IsStarting}
use Rattle.bt_jobs.proofs.jobs.start_all.Given as goal

abbrev pub invariant-loop-given : goal.invariant-loop-given
invariant-loop-given g l =
    IsStarting g.L.Starter.starts g.L.Part.StartedPart.stands l.text l.fn.commands.items (into_iter_items l.given-iterator) (vec_capacity l.parts) l.initial.starter
    l.starter l.parts.items
