use Rattle.bt_resume.proofs.Openings as openings
use Rattle.bt_resume.proofs.law.kept_devices_open.Goals as goal

pub returns : goal.returns
returns g c =
    let d = g.D.Disk in
    record {
      reads = openings.kept_devices_are_read d.conduct;
      opens = openings.kept_devices_open d.conduct;
    }
