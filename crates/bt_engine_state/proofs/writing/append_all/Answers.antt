use Rattle.std.proofs.Common.{arith}
use Rattle.bt_engine_state.proofs.Calls.{one_appended, err_is, one_refused, all_appended}
use Rattle.bt_engine_state.proofs.writing.append_all.Goals as goal

pub returns-in_err-append : goal.returns-in_err-append
returns-in_err-append g c =
    let d = g.D.Disk in
    one_refused d.conduct c.args.log.now c.args.hints.now c.loop-hint.hint-index c.hint-item.result c.in_err-append.field-0.0 c.loop-hint.log
    c.append.new.self (omega (arith, c.loop-hint-test.true)) c.hint-item.is c.requires c.loop-hint.invariant c.in_err-append.ensures
    c.from_residual.result (err_is _ _ c.from_residual.ensures.1)

pub loop-hint-preserved : goal.loop-hint-preserved
loop-hint-preserved g c =
    let d = g.D.Disk in
    one_appended d.conduct c.args.log.now c.args.hints.now c.loop-hint.hint-index c.hint-item.result c.loop-hint.log c.append.new.self
    (omega (arith, c.loop-hint-test.true)) c.hint-item.is c.requires c.loop-hint.invariant c.in_ok-append.ensures

pub returns : goal.returns
returns g c =
    let d = g.D.Disk in
    all_appended d.conduct c.args.log.now c.args.hints.now c.loop-hint.hint-index c.loop-hint.log (omega (arith, c.loop-hint-test.false))
    c.loop-hint.invariant
