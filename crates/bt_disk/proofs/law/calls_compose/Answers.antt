use Rattle.bt_disk.proofs.CallLists.{has_none, has_one, has_then}
use Rattle.bt_disk.proofs.law.calls_compose.Goals as goal

pub returns-clause-none : goal.returns-clause-none
returns-clause-none g c = has_none g.D.Disk.conduct

pub returns-clause-one : goal.returns-clause-one
returns-clause-one g c = has_one g.D.Disk.conduct

pub returns-clause-both : goal.returns-clause-both
returns-clause-both g c = has_then g.D.Disk.conduct
