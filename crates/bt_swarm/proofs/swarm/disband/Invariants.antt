use Rattle.std.proofs.Common.{◌≡◌, ◌+◌, length}
use Rattle.bt_machine.specs.Report.{all_complete}
use Rattle.bt_session.specs.Failures.{OneFailed}
use Rattle.bt_swarm.specs.Moves.{AreKeyed}
use Rattle.bt_swarm.specs.Swarm.{SwarmsOn, ReadFailedOrCut}
use Rattle.bt_swarm.proofs.swarm.disband.Given as goal

abbrev pub invariant-loop-gone : goal.invariant-loop-gone
invariant-loop-gone g l = record {
  keyed : AreKeyed l.engine.state l.members.items;
  swarm : SwarmsOn g.D.Disk.conduct g.H.NodeHash.digest (ReadFailedOrCut g.G.R.WatchedReader.has_failed g.G.Gate.is_troubled l.answer (g.G.Gate.waits l.fn.gate)) (OneFailed g.G.W.QueuedWriter.has_failed) g.G.Gate.gives g.G.R.Read.remaining g.G.W.QueuedWriter.contents g.G.Gate.leads
      l.fn.engine l.fn.members.items l.fn.gate l.engine l.members.items l.gate;
  waits : g.G.Gate.waits l.gate ≡ g.G.Gate.waits l.fn.gate;
  complete : all_complete l.engine.state ≡ all_complete l.fn.engine.state;
  shut : g.G.Gate.is_shut l.fn.gate → g.G.Gate.is_shut l.gate;
  fewer : length l.members.items + l.gone ≡ length l.fn.members.items;
  still : l.gone ≡ 0 → l.engine ≡ l.fn.engine;
}
