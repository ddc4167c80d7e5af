use Rattle.bt_disk.proofs.Histories as histories
use Rattle.bt_disk.proofs.law.calls_keep_lengths.Goals as goal

pub returns-clause-now : goal.returns-clause-now
returns-clause-now c = histories.within_from_now

pub returns-clause-later : goal.returns-clause-later
returns-clause-later c = histories.calls_keep_lengths
