use Rattle.bt_disk.proofs.Histories.{calls_keep_lengths}
use Rattle.bt_disk.proofs.law.devices_keep_lengths.Goals as goal

pub returns : goal.returns
returns g c = λ old new calls t n honest made ends since.
    let history = g.D.Disk.conduct.history in
    calls_keep_lengths (history old) (history new) calls t n (g.met.D.Disk.reads_image old honest) (made.answered honest) ends since
