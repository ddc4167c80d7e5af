use Rattle.bt_session.specs.Failures.{OneFailed}
use Rattle.bt_swarm.specs.Causes.{ReadFailed}
use Rattle.bt_swarm.proofs.Moving.{goes_trans, goes_own_keys}
use Rattle.bt_swarm.proofs.turn.read_and_take.Goals as goal

pub take_events-requires-clause-own_keys : goal.take_events-requires-clause-own_keys
take_events-requires-clause-own_keys g c = goes_own_keys g.G.R.Read.remaining g.G.W.QueuedWriter.contents g.D.Disk.conduct g.H.NodeHash.digest (ReadFailed g.G.R.WatchedReader.has_failed g.G.Gate.is_troubled) (OneFailed g.G.W.QueuedWriter.has_failed) _ _ _ _ c.receive.ensures.goes c.requires.own_keys

pub returns : goal.returns
returns g c = record {
  goes = goes_trans g.G.R.Read.remaining g.G.W.QueuedWriter.contents g.D.Disk.conduct g.H.NodeHash.digest (ReadFailed g.G.R.WatchedReader.has_failed g.G.Gate.is_troubled) (OneFailed g.G.W.QueuedWriter.has_failed) _ _ _ _ _ _ c.receive.ensures.goes c.take_events.ensures.goes;
}
