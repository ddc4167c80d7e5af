use Rattle.std.proofs.Common.{◌≡◌}
use Rattle.bt_session.specs.Failures.{OneFailed}
use Rattle.bt_swarm.specs.Causes.{ReadFailed}
use Rattle.bt_swarm.specs.Moves.{AreKeyed}
use Rattle.bt_swarm.specs.Swarm.{SwarmsOn}
use Rattle.bt_swarm.proofs.run.take_rounds.Given as goal

abbrev pub invariant-loop-waited : goal.invariant-loop-waited
invariant-loop-waited g l = record {
  keyed : AreKeyed l.engine.state l.members.items;
  swarm : SwarmsOn g.D.Disk.conduct g.H.NodeHash.digest (ReadFailed g.G.R.WatchedReader.has_failed g.G.Gate.is_troubled) (OneFailed g.G.W.QueuedWriter.has_failed) g.G.Gate.gives g.G.R.Read.remaining g.G.W.QueuedWriter.contents g.G.Gate.leads
      l.fn.engine l.fn.members.items l.fn.gate l.engine l.members.items l.gate;
  waits : g.G.Gate.waits l.gate ≡ l.waited;
}
