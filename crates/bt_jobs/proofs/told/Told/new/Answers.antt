use Rattle.bt_jobs.proofs.Lines.{told_begun}
use Rattle.bt_jobs.proofs.told.Told.new.Goals as goal

pub returns : goal.returns
returns c = told_begun _ c.new-2.ensures.items c.new.ensures.items
