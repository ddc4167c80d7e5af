use Rattle.std.proofs.Common.{◌+◌, refl, ap}
use Rattle.std.proofs.lemmas.Result.{err_from_is_err_and}
use Rattle.bt_replay.specs.Run.{lines_in}
use Rattle.bt_replay.proofs.LinesRun.{at_start, at_more, ends_here}
use Rattle.bt_replay.proofs.run.run_lines.Goals as goal

pub lines-init : goal.lines-init
lines-init g c =
    at_start g.D.Disk.conduct g.H.NodeHash.digest c.args.handshake.now c.args.engine.now c.args.number c.args.lines
    (g.W.Write.contents c.args.writer.now)

pub lines-preserved : goal.lines-preserved
lines-preserved g c =
    at_more g.D.Disk.conduct g.H.NodeHash.digest c.args.handshake.now c.args.engine.now c.lines.engine c.run_line.new.engine
    c.args.number c.lines.number (c.lines.number + 1) (lines_in c.args.lines) c.in-Some.text.now c.cut.result.0.now c.lines.rest c.cut.result.1
    (g.W.Write.contents c.args.writer.now) (g.W.Write.contents c.lines.writer) (g.W.Write.contents c.run_line.new.writer)
    c.lines.invariant (ap lines_in c.in-Some.is) c.cut.ensures refl c.in_ok-run_line.ensures.done

pub returns-in_err-run_line-clause-ended : goal.returns-in_err-run_line-clause-ended
returns-in_err-run_line-clause-ended g c =
    let p = err_from_is_err_and c.from_residual.result c.from_residual.ensures.1 in
    rw (p.1, p.2)
    (ends_here g.D.Disk.conduct g.H.NodeHash.digest c.args.handshake.now c.args.engine.now c.lines.engine
    c.args.number c.lines.number (lines_in c.args.lines) c.in-Some.text.now c.cut.result.0.now c.lines.rest c.cut.result.1
    (g.W.Write.contents c.args.writer.now) (g.W.Write.contents c.lines.writer) (g.W.Write.contents c.run_line.new.writer) c.in_err-run_line.field-0.0
    c.lines.invariant (ap lines_in c.in-Some.is) c.cut.ensures c.in_err-run_line.ensures.ended)
