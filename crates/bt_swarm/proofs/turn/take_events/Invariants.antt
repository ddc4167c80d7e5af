use Rattle.bt_session.specs.Failures.{OneFailed}
use Rattle.bt_swarm.specs.Causes.{ReadFailed}
use Rattle.bt_swarm.specs.Moves.{GoesOn, HaveOwnKeys}
use Rattle.bt_swarm.proofs.turn.take_events.Given as goal

abbrev pub invariant-loop-taken : goal.invariant-loop-taken
invariant-loop-taken g l = record {
  goes : GoesOn g.D.Disk.conduct g.H.NodeHash.digest (ReadFailed g.G.R.WatchedReader.has_failed g.G.Gate.is_troubled) (OneFailed g.G.W.QueuedWriter.has_failed) g.G.R.Read.remaining g.G.W.QueuedWriter.contents l.fn.engine l.fn.members l.engine l.members;
  own_keys : HaveOwnKeys l.members;
}
