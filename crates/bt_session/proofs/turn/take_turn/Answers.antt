use Rattle.std.proofs.Common.{◌+◌}
use Rattle.std.proofs.lemmas.Result.{err_from_is_err_and}
use Rattle.bt_session.proofs.turn.take_turn.Goals as goal

pub returns-in_err-receive-clause-part : goal.returns-in_err-receive-clause-part
returns-in_err-receive-clause-part g c flushing given taken first h few =
    let p = err_from_is_err_and c.from_residual.result c.from_residual.ensures.1 in
    rw (p.1, p.2) (c.in_err-receive.ensures.part (g.W.Write.contents c.args.writer.now) flushing given taken first h few)

pub returns-in_err-take_events-clause-part : goal.returns-in_err-take_events-clause-part
returns-in_err-take_events-clause-part g c flushing given taken first h few =
    let received = c.in_ok-receive.ensures.part (g.W.Write.contents c.args.writer.now) flushing given taken first h few in
    let p = err_from_is_err_and c.from_residual-in_err-take_events.result c.from_residual-in_err-take_events.ensures.1 in
    rw (p.1, p.2) (c.in_err-take_events.ensures.part (g.R.Read.remaining c.receive.new.reader) flushing given (taken + 1) first received few)

pub returns-clause-part : goal.returns-clause-part
returns-clause-part g c flushing given taken first h few =
    let remaining = g.R.Read.remaining c.receive.new.reader in
    let received = c.in_ok-receive.ensures.part (g.W.Write.contents c.args.writer.now) flushing given taken first h few in
    let took = c.in_ok-take_events.ensures.part remaining flushing given (taken + 1) first received few in
    c.choose.ensures.part remaining flushing given (taken + 1) first took few
