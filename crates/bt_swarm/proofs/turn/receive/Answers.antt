use Rattle.std.proofs.Common.{get_or, refl}
use Rattle.std.proofs.lemmas.List.{get_or_default}
use Rattle.bt_session.specs.Failures.{OneFailed}
use Rattle.bt_swarm.specs.Causes.{IsFaultOf, ReadFailed}
use Rattle.bt_swarm.proofs.Causing.{fault_cause}
use Rattle.bt_swarm.proofs.Moving.{goes_nowhere, goes_alone, goes_again, goes_amiss_again, goes_fed, goes_trans, key_after, nothing_read}
use Rattle.bt_swarm.proofs.turn.receive.Goals as goal

pub returns-then-not-takes_more : goal.returns-then-not-takes_more
returns-then-not-takes_more g c = record {
  goes = goes_nowhere g.G.R.Read.remaining g.G.W.QueuedWriter.contents g.D.Disk.conduct g.H.NodeHash.digest (ReadFailed g.G.R.WatchedReader.has_failed g.G.Gate.is_troubled) (OneFailed g.G.W.QueuedWriter.has_failed) c.args.engine.now c.args.members.now;
}

pub returns-then-count-eq0 : goal.returns-then-count-eq0
returns-then-count-eq0 g c =
    let m = get_or c.args.members.now c.args.at c.index-members-at-2.result in
    record {
      goes = goes_alone g.G.R.Read.remaining g.G.W.QueuedWriter.contents g.D.Disk.conduct g.H.NodeHash.digest (ReadFailed g.G.R.WatchedReader.has_failed g.G.Gate.is_troubled) (OneFailed g.G.W.QueuedWriter.has_failed) c.args.engine.now (IsFaultOf g.G.R.WatchedReader.has_failed g.G.W.QueuedWriter.has_failed g.G.Gate.is_troubled) c.args.members.now c.args.at c.index-members-at-2.result c.read_of-count.new.member
          c.requires.within (λ end. fault_cause g.D.Disk.conduct g.H.NodeHash.digest (ReadFailed g.G.R.WatchedReader.has_failed g.G.Gate.is_troubled) (OneFailed g.G.W.QueuedWriter.has_failed) c.args.engine.now _ m.key end)
          (nothing_read g.G.R.Read.remaining g.G.W.QueuedWriter.contents c.read_of-count.result c.read_of-count.new.buffer (IsFaultOf g.G.R.WatchedReader.has_failed g.G.W.QueuedWriter.has_failed g.G.Gate.is_troubled) m c.read_of-count.new.member c.if-count-eq0.true c.read_of-count.ensures.moves);
    }

pub returns-in-Ok : goal.returns-in-Ok
returns-in-Ok g c =
    let m = get_or c.args.members.now c.args.at c.index-members-at-2.result in
    record {
      goes = goes_trans g.G.R.Read.remaining g.G.W.QueuedWriter.contents g.D.Disk.conduct g.H.NodeHash.digest (ReadFailed g.G.R.WatchedReader.has_failed g.G.Gate.is_troubled) (OneFailed g.G.W.QueuedWriter.has_failed) _ _ _ _ _ _
          (goes_fed g.G.R.Read.remaining g.G.W.QueuedWriter.contents g.D.Disk.conduct g.H.NodeHash.digest (ReadFailed g.G.R.WatchedReader.has_failed g.G.Gate.is_troubled) (OneFailed g.G.W.QueuedWriter.has_failed) c.args.engine.now c.feed.new.engine _ c.args.members.now c.args.at m c.read_of-count.new.member _ _ c.in-Ok.ensures.step
          (key_after g.G.R.Read.remaining g.G.W.QueuedWriter.contents c.args.members.now c.args.at m c.read_of-count.new.member c.index-members-at-3.result c.requires.within c.read_of-count.ensures.moves.same_key)
          refl (λ k. refl) c.requires.within (get_or_default c.args.members.now c.args.at c.index-members-at-2.result m c.requires.within) c.requires.own_keys c.read_of-count.ensures.moves)
          (goes_again g.G.R.Read.remaining g.G.W.QueuedWriter.contents g.D.Disk.conduct g.H.NodeHash.digest (ReadFailed g.G.R.WatchedReader.has_failed g.G.Gate.is_troubled) (OneFailed g.G.W.QueuedWriter.has_failed) c.feed.new.engine c.args.members.now c.args.at c.read_of-count.new.member c.index-members-at-in-Ok.result
          c.note_events.new.member c.requires.within c.note_events.ensures);
    }

pub returns-in-Err : goal.returns-in-Err
returns-in-Err g c =
    let m = get_or c.args.members.now c.args.at c.index-members-at-2.result in
    record {
      goes = goes_trans g.G.R.Read.remaining g.G.W.QueuedWriter.contents g.D.Disk.conduct g.H.NodeHash.digest (ReadFailed g.G.R.WatchedReader.has_failed g.G.Gate.is_troubled) (OneFailed g.G.W.QueuedWriter.has_failed) _ _ _ _ _ _
          (goes_fed g.G.R.Read.remaining g.G.W.QueuedWriter.contents g.D.Disk.conduct g.H.NodeHash.digest (ReadFailed g.G.R.WatchedReader.has_failed g.G.Gate.is_troubled) (OneFailed g.G.W.QueuedWriter.has_failed) c.args.engine.now c.feed.new.engine _ c.args.members.now c.args.at m c.read_of-count.new.member _ _ c.in-Err.ensures.step
          (key_after g.G.R.Read.remaining g.G.W.QueuedWriter.contents c.args.members.now c.args.at m c.read_of-count.new.member c.index-members-at-3.result c.requires.within c.read_of-count.ensures.moves.same_key)
          refl (λ k. refl) c.requires.within (get_or_default c.args.members.now c.args.at c.index-members-at-2.result m c.requires.within) c.requires.own_keys c.read_of-count.ensures.moves)
          (goes_amiss_again g.G.R.Read.remaining g.G.W.QueuedWriter.contents g.D.Disk.conduct g.H.NodeHash.digest (ReadFailed g.G.R.WatchedReader.has_failed g.G.Gate.is_troubled) (OneFailed g.G.W.QueuedWriter.has_failed) c.feed.new.engine c.args.members.now c.args.at c.read_of-count.new.member c.index-members-at-in-Err.result
          c.put_end.new.member _ c.requires.within tt c.put_end.ensures.moves);
    }
