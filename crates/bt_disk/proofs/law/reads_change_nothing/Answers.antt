use Rattle.bt_disk.proofs.Histories as histories
use Rattle.bt_disk.proofs.law.reads_change_nothing.Goals as goal

pub returns : goal.returns
returns c = histories.reads_change_nothing
