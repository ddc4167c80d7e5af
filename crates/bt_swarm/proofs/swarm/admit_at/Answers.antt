use Rattle.std.proofs.Common.{refl}
use Rattle.bt_session.specs.Failures.{OneFailed}
use Rattle.bt_swarm.specs.Causes.{ReadFailed}
use Rattle.bt_swarm.proofs.Going.{on_nowhere}
use Rattle.bt_swarm.proofs.swarm.admit_at.Goals as goal

pub returns-then-is_taken : goal.returns-then-is_taken
returns-then-is_taken g c = record {
  keyed = c.requires.keyed;
  swarm = on_nowhere g.D.Disk.conduct g.H.NodeHash.digest (ReadFailed g.G.R.WatchedReader.has_failed g.G.Gate.is_troubled) (OneFailed g.G.W.QueuedWriter.has_failed) g.G.Gate.gives g.G.R.Read.remaining g.G.W.QueuedWriter.contents g.G.Gate.leads c.args.engine.now c.args.members.now.items c.args.gate.now c.args.gate.now (g.met.G.Gate.leads_nowhere c.args.gate.now);
  waits = refl;
}
