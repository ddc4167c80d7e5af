-- The peer is there, and so far the session goes on, one turn after the other.
use Rattle.bt_session.specs.Progress.{Place, place}
use Rattle.bt_session.specs.Ends.{IsBetweenTurns}
use Rattle.bt_session.specs.Parts.{GoesOn}
use Rattle.bt_session.specs.PeerSteps.{IsAlone}
use Rattle.bt_session.proofs.session.take_turns.Given as goal

abbrev pub invariant-loop-taken : goal.invariant-loop-taken
invariant-loop-taken g l = record {
  alone : IsAlone l.partner.key l.engine.state;
  goes : (first : Place g.row.D.Denot)
      → GoesOn g.D.Disk.conduct g.H.NodeHash.digest l.partner.key l.partner.until_complete l.partner.flushing
      (IsBetweenTurns l.partner.until_complete) first 0
      (place l.initial.engine (g.R.Read.remaining l.initial.reader) (g.W.Write.contents l.initial.writer))
      → GoesOn g.D.Disk.conduct g.H.NodeHash.digest l.partner.key l.partner.until_complete l.partner.flushing
      (IsBetweenTurns l.partner.until_complete) first l.taken (place l.engine (g.R.Read.remaining l.reader) (g.W.Write.contents l.writer));
  flushed : g.W.WatchedWriter.is_flushed l.initial.writer → g.W.WatchedWriter.is_flushed l.writer;
}
