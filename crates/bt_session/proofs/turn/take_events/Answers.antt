use Rattle.std.proofs.Common.{◌≤◌, arith}
use Rattle.std.proofs.lemmas.Result.{err_from_is_err_and}
use Rattle.bt_session.proofs.turn.take_events.Goals as goal

pub returns-in_err-take_event-clause-part : goal.returns-in_err-take_event-clause-part
returns-in_err-take_event-clause-part g c remaining flushing given taken first h few =
    let p = err_from_is_err_and c.from_residual.result c.from_residual.ensures.1 in
    rw (p.1, p.2) (c.in_err-take_event.ensures.part remaining flushing given taken first (c.loop.invariant.goes remaining flushing taken first h) few)

pub loop-preserved : goal.loop-preserved
loop-preserved g c = record {
  alone = (rw c.if-branch.true at c.in_ok-take_event.ensures.stays).0;
  goes = λ remaining flushing taken first h.
      let few : taken ≤ taken = omega arith in
      rw c.if-branch.true at (c.in_ok-take_event.ensures.part remaining flushing taken taken first (c.loop.invariant.goes remaining flushing taken first h) few);
  flushed = λ before. c.in_ok-take_event.ensures.flushed (c.loop.invariant.flushed before) (λ is. absurd cc);
}

pub returns-clause-part : goal.returns-clause-part
returns-clause-part g c remaining flushing given taken first h few =
    rw c.if-branch.false at (c.in_ok-take_event.ensures.part remaining flushing given taken first (c.loop.invariant.goes remaining flushing taken first h) few)
