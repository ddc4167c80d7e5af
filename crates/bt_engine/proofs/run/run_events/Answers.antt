use Rattle.std.proofs.Common.{arith}
use Rattle.std.proofs.lemmas.List.{take_all}
use Rattle.bt_engine.proofs.EventRuns.{one_more_ran}
use Rattle.bt_engine.proofs.run.run_events.Goals as goal

pub loop-event-preserved : goal.loop-event-preserved
loop-event-preserved g c =
    let so_far = c.loop-event.invariant in
    let lt = c.loop-event-test.true in
    let pushed = c.push.ensures.succeeds (omega (arith, so_far.1, lt)) in
    let items = rw pushed at c.push.ensures.items in
    let len = rw pushed at c.push.ensures.len in (
      one_more_ran g.D.Disk.conduct g.H.NodeHash.digest c.runs_compose.ensures.one_more c.args.engine.now c.loop-event.engine c.run_event.new.engine
          c.args.events.now c.loop-event.event-index c.event-item.result c.reserve.new.self.items c.push.new.self.items c.loop-event.answers.items c.run_event.result
          lt c.event-item.is items so_far.0 c.run_event.ensures,
      omega (arith, so_far.1, len, c.push.ensures.capacity),
    )

pub returns-clause-runs : goal.returns-clause-runs
returns-clause-runs g c =
    let all = take_all c.loop-event.event-index c.args.events.now c.loop-event-test.false in
    let ran = rw all at c.loop-event.invariant.0 in
    rw c.reserve.ensures.items at ran

pub returns-clause-stands : goal.returns-clause-stands
returns-clause-stands g c = λ none.
    let all = take_all c.loop-event.event-index c.args.events.now c.loop-event-test.false in
    let ran = rw all at c.loop-event.invariant.0 in
    c.events_stand.ensures.runs c.args.engine.now c.loop-event.engine c.args.events.now ran.said none c.keeps_laws.ensures.sound ran.runs
