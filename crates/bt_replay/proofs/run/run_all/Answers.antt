use Rattle.std.proofs.Common.{refl}
use Rattle.std.proofs.lemmas.Result.{err_from_is_err_and}
use Rattle.bt_replay.specs.Run.{lines_in, unwritten}
use Rattle.bt_replay.proofs.LinesRun.{kept_run}
use Rattle.bt_replay.proofs.run.run_all.Goals as goal

pub returns-in-Ok-clause-done : goal.returns-in-Ok-clause-done
returns-in-Ok-clause-done g c =
    kept_run g.D.Disk.conduct g.H.NodeHash.digest _ c.args.engine.now c.run_lines.new.engine
    (lines_in c.args.lines) (g.W.Write.contents c.args.writer.now) (g.W.Write.contents c.run_lines.new.writer) (g.W.Write.contents c.pass_on.new.self)
    c.in_ok-run_lines.ensures.done c.in-Ok.ensures.bytes

pub returns-in-Err-clause-ended : goal.returns-in-Err-clause-ended
returns-in-Err-clause-ended g c = unwritten refl

pub returns-in_err-run_lines-clause-ended : goal.returns-in_err-run_lines-clause-ended
returns-in_err-run_lines-clause-ended g c =
    let p = err_from_is_err_and c.from_residual.result c.from_residual.ensures.1 in
    rw (p.1, p.2) c.in_err-run_lines.ensures.ended
