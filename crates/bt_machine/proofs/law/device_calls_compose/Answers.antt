use Rattle.bt_machine.proofs.DeviceLaw.{have_none, have_one, have_then}
use Rattle.bt_machine.proofs.law.device_calls_compose.Goals as goal

pub returns : goal.returns
returns g c = record {
  none = have_none g.D.Disk.conduct;
  one = have_one g.D.Disk.conduct;
  both = have_then g.D.Disk.conduct;
}
