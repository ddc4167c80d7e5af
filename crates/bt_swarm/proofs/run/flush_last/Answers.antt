use Rattle.std.proofs.Common.{refl, inl, inr}
use Rattle.bt_swarm.proofs.Ending.{flush_refused}
use Rattle.bt_swarm.proofs.run.flush_last.Goals as goal

pub returns-in-Never : goal.returns-in-Never
returns-in-Never g c = record { step = inl refl; refused = tt; complete = refl; flushed = λ some. absurd (some c.in-Never.is) }

pub returns-in-Each : goal.returns-in-Each
returns-in-Each g c = record {
  step = inr (c.flush.result, c.flush.ensures.step);
  refused = flush_refused g.D.Disk.conduct g.H.NodeHash.digest _ _ c.flush.result c.flush.ensures.step;
  complete = c.flush.ensures.complete;
  flushed = λ some. c.flush.ensures.blocks;
}
