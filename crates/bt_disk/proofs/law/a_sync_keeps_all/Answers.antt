use Rattle.bt_disk.proofs.Histories.{sync_keeps_all}
use Rattle.bt_disk.proofs.law.a_sync_keeps_all.Goals as goal

pub returns : goal.returns
returns c = sync_keeps_all
