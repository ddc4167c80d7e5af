use Rattle.bt_jobs.proofs.Wholes.{parts_whole}
use Rattle.bt_jobs.proofs.law.parts_are_whole.Goals as goal

pub returns : goal.returns
returns c = parts_whole
