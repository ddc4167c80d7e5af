use Rattle.std.proofs.Common.{◌∙◌, arith}
use Rattle.std.proofs.lemmas.Result.{err_from_is_err_and}
use Rattle.bt_disk.specs.Calls.{length_fault}
use Rattle.bt_disk.proofs.CallLists.{has_one}
use Rattle.bt_resume.specs.ResumeLog.{unmeasured}
use Rattle.bt_resume.proofs.Readings.{has_nothing, opens_read, opens_made, opens_unmade}
use Rattle.bt_resume.proofs.contents.open_log.Goals as goal

pub returns-in_default-clause-opens : goal.returns-in_default-clause-opens
returns-in_default-clause-opens g c =
    let d = g.D.Disk in
    let w = c.in_default.ensures in
    unmeasured c.len.new.self (has_one d.conduct c.args.disk.now length_fault c.len.new.self w.counted w.as_honest w.answered)

pub returns-then-len-gt0-clause-opens : goal.returns-then-len-gt0-clause-opens
returns-then-len-gt0-clause-opens g c =
    let d = g.D.Disk in
    let w = c.in-Ok.ensures in
    opens_read d.conduct c.args.infohash.now c.args.disk.now c.len.new.self c.read_contents.new.disk _ c.in-Ok.len
    (has_nothing d.conduct c.args.disk.now c.len.new.self w.counted w.as_honest (λ h. (w.answered h).1)) (λ h. (w.answered h).0)
    c.if-len-gt0.true c.read_contents.ensures.reads

pub returns-in_err-make_log-clause-opens : goal.returns-in_err-make_log-clause-opens
returns-in_err-make_log-clause-opens g c =
    let d = g.D.Disk in
    let w = c.in-Ok.ensures in
    let e = err_from_is_err_and c.from_residual.result c.from_residual.ensures.1 in
    rw (e.1, e.2) (opens_unmade d.conduct c.args.infohash.now c.args.disk.now c.len.new.self c.make_log.new.disk c.in_err-make_log.field-0.0 c.in-Ok.len
    (has_nothing d.conduct c.args.disk.now c.len.new.self w.counted w.as_honest (λ h. (w.answered h).1)) (λ h. (w.answered h).0)
    (omega (arith, c.if-len-gt0.false)) c.in_err-make_log.ensures)

pub returns-clause-opens : goal.returns-clause-opens
returns-clause-opens g c =
    let d = g.D.Disk in
    let w = c.in-Ok.ensures in
    opens_made d.conduct c.args.infohash.now c.args.disk.now c.len.new.self c.make_log.new.disk _ c.in-Ok.len
    (has_nothing d.conduct c.args.disk.now c.len.new.self w.counted w.as_honest (λ h. (w.answered h).1)) (λ h. (w.answered h).0)
    (omega (arith, c.if-len-gt0.false)) (c.new-2.ensures.hints ∙ c.new.ensures) c.in_ok-make_log.ensures
