use Rattle.bt_session.specs.Failures.{OneFailed}
use Rattle.bt_swarm.specs.Causes.{ReadFailed}
use Rattle.bt_swarm.proofs.Moving.{goes_trans, goes_own_keys}
use Rattle.bt_swarm.proofs.turn.take_turn.Goals as goal

pub loop-read-init : goal.loop-read-init
loop-read-init g c = record {
  goes = c.take_events-left.ensures.goes;
  own_keys = goes_own_keys g.G.R.Read.remaining g.G.W.QueuedWriter.contents g.D.Disk.conduct g.H.NodeHash.digest (ReadFailed g.G.R.WatchedReader.has_failed g.G.Gate.is_troubled) (OneFailed g.G.W.QueuedWriter.has_failed) _ _ _ _ c.take_events-left.ensures.goes c.requires.own_keys;
}

pub loop-read-preserved : goal.loop-read-preserved
loop-read-preserved g c = record {
  goes = goes_trans g.G.R.Read.remaining g.G.W.QueuedWriter.contents g.D.Disk.conduct g.H.NodeHash.digest (ReadFailed g.G.R.WatchedReader.has_failed g.G.Gate.is_troubled) (OneFailed g.G.W.QueuedWriter.has_failed) _ _ _ _ _ _ c.loop-read.invariant.goes c.read_and_take-left.ensures.goes;
  own_keys = goes_own_keys g.G.R.Read.remaining g.G.W.QueuedWriter.contents g.D.Disk.conduct g.H.NodeHash.digest (ReadFailed g.G.R.WatchedReader.has_failed g.G.Gate.is_troubled) (OneFailed g.G.W.QueuedWriter.has_failed) _ _ _ _ c.read_and_take-left.ensures.goes c.loop-read.invariant.own_keys;
}
