use Rattle.std.proofs.Common.{◌<◌, inr, length, arith}
use Rattle.bt_session.specs.Failures.{OneFailed}
use Rattle.bt_swarm.specs.Causes.{ReadFailed}
use Rattle.bt_swarm.proofs.Moving.{goes_amiss, goes_trans}
use Rattle.bt_swarm.proofs.turn.take_event_safely.Goals as goal

pub returns-then-has_trouble : goal.returns-then-has_trouble
returns-then-has_trouble g c =
    let within : c.args.at < length c.take_event.new.members = omega (arith, c.take_event.ensures.goes.moves.same_length, c.requires.within) in
    record {
      goes = goes_trans g.G.R.Read.remaining g.G.W.QueuedWriter.contents g.D.Disk.conduct g.H.NodeHash.digest (ReadFailed g.G.R.WatchedReader.has_failed g.G.Gate.is_troubled) (OneFailed g.G.W.QueuedWriter.has_failed) _ _ _ _ _ _ c.take_event.ensures.goes
          (goes_amiss g.G.R.Read.remaining g.G.W.QueuedWriter.contents g.D.Disk.conduct g.H.NodeHash.digest (ReadFailed g.G.R.WatchedReader.has_failed g.G.Gate.is_troubled) (OneFailed g.G.W.QueuedWriter.has_failed) c.take_event.new.engine c.take_event.new.members c.args.at c.index-members-at.result c.put_end.new.member _
          within (inr (c.args.gate.now, c.has_trouble.ensures c.if-has_trouble.true)) c.put_end.ensures.moves);
    }
