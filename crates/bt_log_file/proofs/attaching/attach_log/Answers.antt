use Rattle.std.proofs.Common.{ℕ, List, Err, subst}
use Rattle.bt_resume.specs.ResumeLog.{Opens}
use Rattle.bt_log_file.proofs.attaching.attach_log.Goals as goal

pub returns-in-Err-clause-fault : goal.returns-in-Err-clause-fault
returns-in-Err-clause-fault g c = record {
  is_free = c.requires.free;
  cause = c.in-Err.refused.cause;
  after = c.in-Err.refused.disk;
  opens = subst (λ (h : List ℕ). Opens g.D.Disk.conduct h c.args.opened.disk (Err c.in-Err.refused.cause) c.in-Err.refused.disk)
      c.infohash.ensures c.in-Err.ensures.refused;
  told = c.log_fault.ensures;
}
