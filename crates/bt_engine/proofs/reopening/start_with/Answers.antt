use Rattle.std.proofs.Common.{refl}
use Rattle.bt_engine.proofs.RunReopenings.{none_back, same_disk, start_refused}
use Rattle.bt_engine.proofs.reopening.start_with.Goals as goal

pub unreachable-requires : goal.unreachable-requires
unreachable-requires g c =
    none_back g.D.Disk.conduct g.H.NodeHash.digest c.requires.same_torrent c.start.ensures.answer c.in-Err.is c.in-None.is

pub returns-in-Ok-clause-begun : goal.returns-in-Ok-clause-begun
returns-in-Ok-clause-begun g c = rw c.in-Ok.is at c.start.ensures.answer

pub returns-in-Ok-clause-again : goal.returns-in-Ok-clause-again
returns-in-Ok-clause-again g c = c.in-Ok.ensures.again

pub returns-in-Ok-clause-backed : goal.returns-in-Ok-clause-backed
returns-in-Ok-clause-backed g c = c.in-Ok.ensures.backed

pub returns-in-Some-clause-refused : goal.returns-in-Some-clause-refused
returns-in-Some-clause-refused g c =
    let r = start_refused g.D.Disk.conduct g.H.NodeHash.digest c.requires.same_torrent c.start.ensures.answer c.in-Err.is in
    record {
      cause = c.in-Err.refused.cause;
      same_cause = refl;
      same_torrent = r.same_torrent;
      count = r.count;
      same_disks = r.same_disks;
      same_log = same_disk r.same_log c.in-Some.is c.into_disk.ensures;
    }
