use Rattle.std.proofs.Common.{arith}
use Rattle.std.proofs.lemmas.Result.{err_from_is_err_and}
use Rattle.bt_resume.proofs.Readings.{reads_unheaded, reads_too_long, reads_contents}
use Rattle.bt_resume.proofs.contents.read_contents.Goals as goal

pub returns-then-len-gt-MAX_LOG_LEN-clause-reads : goal.returns-then-len-gt-MAX_LOG_LEN-clause-reads
returns-then-len-gt-MAX_LOG_LEN-clause-reads g c =
    let d = g.D.Disk in
    let w = c.in_ok-format.ensures in
    reads_too_long d.conduct c.args.infohash.now c.in_ok-format.format c.args.disk.now c.check_header.new.disk c.args.len w.0 w.1 c.requires
    (omega (arith, c.if-len-gt-MAX_LOG_LEN.true))

pub returns-in_err-format-clause-reads : goal.returns-in_err-format-clause-reads
returns-in_err-format-clause-reads g c =
    let d = g.D.Disk in
    let e = err_from_is_err_and c.from_residual.result c.from_residual.ensures.1 in
    rw (e.1, e.2) (reads_unheaded d.conduct c.args.infohash.now c.args.disk.now c.check_header.new.disk c.in_err-format.field-0.0
    c.in_err-format.ensures)

pub returns-clause-reads : goal.returns-clause-reads
returns-clause-reads g c =
    let d = g.D.Disk in
    let w = c.in_ok-format.ensures in
    reads_contents d.conduct c.args.infohash.now c.in_ok-format.format c.args.disk.now c.check_header.new.disk c.read_hints.new.disk
    c.read_hints.result c.args.len w.0 w.1 c.requires (omega (arith, c.if-len-gt-MAX_LOG_LEN.false)) c.read_hints.ensures
