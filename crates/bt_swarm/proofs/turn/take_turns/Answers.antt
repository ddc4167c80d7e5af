use Rattle.bt_session.specs.Failures.{OneFailed}
use Rattle.bt_swarm.specs.Causes.{ReadFailed}
use Rattle.bt_swarm.proofs.Moving.{goes_nowhere, goes_trans, goes_own_keys}
use Rattle.bt_swarm.proofs.turn.take_turns.Goals as goal

pub loop-at-init : goal.loop-at-init
loop-at-init g c = record {
  goes = goes_nowhere g.G.R.Read.remaining g.G.W.QueuedWriter.contents g.D.Disk.conduct g.H.NodeHash.digest (ReadFailed g.G.R.WatchedReader.has_failed g.G.Gate.is_troubled) (OneFailed g.G.W.QueuedWriter.has_failed) c.args.engine.now c.args.members.now;
  own_keys = c.requires.own_keys;
}

pub loop-at-preserved : goal.loop-at-preserved
loop-at-preserved g c = record {
  goes = goes_trans g.G.R.Read.remaining g.G.W.QueuedWriter.contents g.D.Disk.conduct g.H.NodeHash.digest (ReadFailed g.G.R.WatchedReader.has_failed g.G.Gate.is_troubled) (OneFailed g.G.W.QueuedWriter.has_failed) _ _ _ _ _ _ c.loop-at.invariant.goes c.take_turn_if_ready.ensures.goes;
  own_keys = goes_own_keys g.G.R.Read.remaining g.G.W.QueuedWriter.contents g.D.Disk.conduct g.H.NodeHash.digest (ReadFailed g.G.R.WatchedReader.has_failed g.G.Gate.is_troubled) (OneFailed g.G.W.QueuedWriter.has_failed) _ _ _ _ c.take_turn_if_ready.ensures.goes c.loop-at.invariant.own_keys;
}
