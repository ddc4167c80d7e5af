use Rattle.bt_machine.proofs.OverRestarts.{no_restarts, counts_tell}
use Rattle.bt_machine.proofs.log_law.restarts_read_all.Goals as goal

pub returns : goal.returns
returns g c = record {
  none = no_restarts;
  counted = counts_tell g.D.Disk.conduct g.H.NodeHash.digest;
}
