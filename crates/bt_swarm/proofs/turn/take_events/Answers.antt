use Rattle.bt_session.specs.Failures.{OneFailed}
use Rattle.bt_swarm.specs.Causes.{ReadFailed}
use Rattle.bt_swarm.proofs.Moving.{goes_nowhere, goes_trans, goes_own_keys}
use Rattle.bt_swarm.proofs.turn.take_events.Goals as goal

pub loop-taken-init : goal.loop-taken-init
loop-taken-init g c = record { goes = goes_nowhere g.G.R.Read.remaining g.G.W.QueuedWriter.contents g.D.Disk.conduct g.H.NodeHash.digest (ReadFailed g.G.R.WatchedReader.has_failed g.G.Gate.is_troubled) (OneFailed g.G.W.QueuedWriter.has_failed) c.args.engine.now c.args.members.now; own_keys = c.requires.own_keys }

pub loop-taken-preserved : goal.loop-taken-preserved
loop-taken-preserved g c = record {
  goes = goes_trans g.G.R.Read.remaining g.G.W.QueuedWriter.contents g.D.Disk.conduct g.H.NodeHash.digest (ReadFailed g.G.R.WatchedReader.has_failed g.G.Gate.is_troubled) (OneFailed g.G.W.QueuedWriter.has_failed) _ _ _ _ _ _ c.loop-taken.invariant.goes c.take_event_safely.ensures.goes;
  own_keys = goes_own_keys g.G.R.Read.remaining g.G.W.QueuedWriter.contents g.D.Disk.conduct g.H.NodeHash.digest (ReadFailed g.G.R.WatchedReader.has_failed g.G.Gate.is_troubled) (OneFailed g.G.W.QueuedWriter.has_failed) _ _ _ _ c.take_event_safely.ensures.goes c.loop-taken.invariant.own_keys;
}
