-- The data files so far are those of the first entries.
use Rattle.bt_jobs.proofs.Openings.{AreOpened}
use Rattle.bt_jobs.proofs.part.open_part.Given as goal

abbrev pub invariant-loop-number : goal.invariant-loop-number
invariant-loop-number g l = AreOpened l.dir l.entries l.shares l.number l.files.items
