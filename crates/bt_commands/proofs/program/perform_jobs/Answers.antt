use Rattle.bt_commands.proofs.ProgramRun.{jobs_done}
use Rattle.bt_commands.proofs.program.perform_jobs.Goals as goal

pub returns-clause-done : goal.returns-clause-done
returns-clause-done g c =
    jobs_done _ _ (record { source = c.args.task.torrent; dir = c.args.task.dir; count = c.args.count }) c.in_ok-summary.summary _ _ _ _ _
    c.outcome.ensures c.in_ok-summary.ensures.report
