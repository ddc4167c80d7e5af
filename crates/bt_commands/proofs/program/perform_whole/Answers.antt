use Rattle.bt_commands.proofs.ProgramRun.{check_done}
use Rattle.bt_commands.proofs.program.perform_whole.Goals as goal

pub returns-clause-done : goal.returns-clause-done
returns-clause-done g c =
    check_done c.args.task.torrent c.args.task.dir.now c.in_ok-torrent.torrent c.in_ok-summary.summary _ _ _ c.outcome.ensures c.in_ok-torrent.ensures.torrent
    c.in_ok-summary.ensures.report
