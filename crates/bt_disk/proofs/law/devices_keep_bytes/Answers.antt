use Rattle.bt_disk.proofs.Histories.{calls_keep_bytes}
use Rattle.bt_disk.proofs.law.devices_keep_bytes.Goals as goal

pub returns : goal.returns
returns g c = λ old new calls t i byte honest made spare since.
    let history = g.D.Disk.conduct.history in
    calls_keep_bytes (history old) (history new) calls t i byte (g.met.D.Disk.reads_image old honest) (made.answered honest) spare since
