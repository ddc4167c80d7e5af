use Rattle.std.proofs.Common.{inr}
use Rattle.bt_swarm.proofs.Ending.{flush_refused}
use Rattle.bt_swarm.proofs.run.flush_if_due.Goals as goal

pub returns : goal.returns
returns g c = record {
  step = inr (c.flush.result, c.flush.ensures.step);
  refused = flush_refused g.D.Disk.conduct g.H.NodeHash.digest _ _ c.flush.result c.flush.ensures.step;
}
