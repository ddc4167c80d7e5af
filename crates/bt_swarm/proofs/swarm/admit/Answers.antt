use Rattle.std.proofs.Common.{refl, ◌∙◌}
use Rattle.bt_session.specs.Failures.{OneFailed}
use Rattle.bt_swarm.specs.Causes.{ReadFailed}
use Rattle.bt_swarm.proofs.Going.{on_nowhere, on_trans}
use Rattle.bt_swarm.proofs.swarm.admit.Goals as goal

pub loop-place-init : goal.loop-place-init
loop-place-init g c = record {
  keyed = c.requires.keyed;
  swarm = on_nowhere g.D.Disk.conduct g.H.NodeHash.digest (ReadFailed g.G.R.WatchedReader.has_failed g.G.Gate.is_troubled) (OneFailed g.G.W.QueuedWriter.has_failed) g.G.Gate.gives g.G.R.Read.remaining g.G.W.QueuedWriter.contents g.G.Gate.leads c.args.engine.now c.args.members.now.items c.args.gate.now c.args.gate.now (g.met.G.Gate.leads_nowhere c.args.gate.now);
  waits = refl;
}

pub loop-place-preserved : goal.loop-place-preserved
loop-place-preserved g c = record {
  keyed = c.admit_at.ensures.keyed;
  swarm = on_trans g.D.Disk.conduct g.H.NodeHash.digest (ReadFailed g.G.R.WatchedReader.has_failed g.G.Gate.is_troubled) (OneFailed g.G.W.QueuedWriter.has_failed) g.G.Gate.gives g.G.R.Read.remaining g.G.W.QueuedWriter.contents g.G.Gate.leads g.met.G.Gate.leads_on _ _ _ _ _ _ _ _ _ c.loop-place.invariant.swarm c.admit_at.ensures.swarm;
  waits = c.admit_at.ensures.waits ∙ c.loop-place.invariant.waits;
}

pub returns-then-not-admit_at : goal.returns-then-not-admit_at
returns-then-not-admit_at g c = record {
  keyed = c.admit_at.ensures.keyed;
  swarm = on_trans g.D.Disk.conduct g.H.NodeHash.digest (ReadFailed g.G.R.WatchedReader.has_failed g.G.Gate.is_troubled) (OneFailed g.G.W.QueuedWriter.has_failed) g.G.Gate.gives g.G.R.Read.remaining g.G.W.QueuedWriter.contents g.G.Gate.leads g.met.G.Gate.leads_on _ _ _ _ _ _ _ _ _ c.loop-place.invariant.swarm c.admit_at.ensures.swarm;
  waits = c.admit_at.ensures.waits ∙ c.loop-place.invariant.waits;
}

pub returns : goal.returns
returns g c = record { keyed = c.loop-place.invariant.keyed; swarm = c.loop-place.invariant.swarm; waits = c.loop-place.invariant.waits }
