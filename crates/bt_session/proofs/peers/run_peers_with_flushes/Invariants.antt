-- So far peers were tried in their turns, by events, and the others were not.
use Rattle.std.proofs.Common.{[], ◌≡◌, take, drop, replicate, length}
use Rattle.std.specs.Prelude.{All}
use Rattle.bt_engine.specs.Leads.{LeadsTo}
use Rattle.bt_session.specs.declared.end.SessionEnd.TheVariants.{ReadFault, WriteFault}
use Rattle.bt_session.specs.declared.peer_end.PeerEnd.TheVariants.{Untried, Session}
use Rattle.bt_session.specs.Failures.{OnlyAfterFailure, OneFailed}
use Rattle.bt_session.specs.Peers.{IsTriedAndTold}
use Rattle.bt_session.proofs.Turns.{LeadsOn}
use Rattle.bt_session.proofs.peers.run_peers_with_flushes.Given as goal

abbrev pub invariant-loop-i : goal.invariant-loop-i
invariant-loop-i g l = record {
  no_peer : l.engine.state.peers ≡ [];
  undialled : All (λ link. g.L.Link.dials link ≡ 0) (drop l.i l.links);
  untried : drop l.i l.ends ≡ replicate (length (drop l.i l.links)) Untried;
  leads : LeadsOn
      (IsTriedAndTold (OneFailed g.L.R.WatchedReader.has_failed) g.D.Disk.conduct g.H.NodeHash.digest g.L.Link.dials g.L.Link.failures
      g.L.Link.gives g.L.R.Read.remaining g.L.W.Write.contents l.flushing l.turns)
      l.initial.engine l.initial.links l.engine (drop l.i l.links) (take l.i l.ends) (take l.i l.links);
  read : All (OnlyAfterFailure (Session ReadFault) (OneFailed g.L.R.WatchedReader.has_failed)) l.ends;
  written : All (OnlyAfterFailure (Session WriteFault) (OneFailed g.L.W.WatchedWriter.has_failed)) l.ends;
  run : LeadsTo g.D.Disk.conduct g.H.NodeHash.digest l.initial.engine l.engine;
}
