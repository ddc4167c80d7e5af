-- The peer is there, and so far the session goes on.
use Rattle.std.proofs.Common.{ℕ, List, Option}
use Rattle.bt_session.specs.declared.flushing.Flushing.{Flushing}
use Rattle.bt_session.specs.Progress.{Place, place}
use Rattle.bt_session.specs.Parts.{GoesOn, AwaitsWireEvent}
use Rattle.bt_session.specs.PeerSteps.{IsAlone, unread_count}
use Rattle.bt_session.proofs.turn.take_events.Given as goal

abbrev pub invariant-loop : goal.invariant-loop
invariant-loop g l = record {
  alone : IsAlone l.partner.key l.engine.state;
  goes : (remaining : Option (List ℕ)) (flushing : Flushing) (taken : ℕ) (first : Place g.row.D.Denot)
      → GoesOn g.D.Disk.conduct g.H.NodeHash.digest l.partner.key l.partner.until_complete flushing
      (AwaitsWireEvent l.partner) first taken (place l.initial.engine remaining (g.W.Write.contents l.initial.writer))
      → GoesOn g.D.Disk.conduct g.H.NodeHash.digest l.partner.key l.partner.until_complete flushing
      (AwaitsWireEvent l.partner) first taken (place l.engine remaining (g.W.Write.contents l.writer));
  flushed : g.W.WatchedWriter.is_flushed l.initial.writer → g.W.WatchedWriter.is_flushed l.writer;
}

abbrev pub decreases-loop : goal.decreases-loop
decreases-loop g l = unread_count l.engine.state
