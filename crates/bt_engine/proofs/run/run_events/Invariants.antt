use Rattle.std.proofs.Common.{◌+◌, ◌≤◌, length, take, vec_len, vec_capacity}
use Rattle.bt_engine.specs.Run.{RunsEvents}
use Rattle.bt_engine.proofs.run.run_events.Given as goal

abbrev pub invariant-loop-event : goal.invariant-loop-event
invariant-loop-event g l =
    RunsEvents g.D.Disk.conduct g.H.NodeHash.digest l.initial.engine (take l.event-index l.events) l.initial.answers.items
    l.answers.items l.engine × (vec_len l.answers + length l.events ≤ vec_capacity l.answers + l.event-index)
