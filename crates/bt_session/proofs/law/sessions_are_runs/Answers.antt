use Rattle.bt_session.proofs.Runs.{session_runs}
use Rattle.bt_session.proofs.law.sessions_are_runs.Goals as goal

pub returns : goal.returns
returns g c =
    session_runs g.D.Disk.conduct g.H.NodeHash.digest c.runs_compose.ensures.none c.runs_compose.ensures.one_more
