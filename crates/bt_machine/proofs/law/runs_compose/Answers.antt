use Rattle.bt_machine.proofs.View.{none_run, one_more_runs, runs_compose, without_devices}
use Rattle.bt_machine.proofs.law.runs_compose.Goals as goal

pub returns : goal.returns
returns g c = record {
  none = none_run g.D.Disk.conduct g.H.NodeHash.digest;
  one_more = one_more_runs g.D.Disk.conduct g.H.NodeHash.digest;
  both = runs_compose g.D.Disk.conduct g.H.NodeHash.digest;
  are_runs = without_devices g.D.Disk.conduct g.H.NodeHash.digest;
}
