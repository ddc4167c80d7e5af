use Rattle.bt_machine.proofs.OfLog.{start_of_log, step_of_log, run_of_log}
use Rattle.bt_machine.proofs.log_law.engines_are_of_logs.Goals as goal

pub returns : goal.returns
returns g c =
    let d = g.D.Disk in
    let dig = g.H.NodeHash.digest in
    record {
      starts = start_of_log d.conduct dig;
      steps = step_of_log d.conduct dig;
      runs = run_of_log d.conduct dig;
    }
