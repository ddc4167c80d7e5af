-- Those that were gone over were sent theirs, and the others are as they were.
use Rattle.std.proofs.Common.{[], ◌≡◌, ℕ, ◌<◌, ◌≤◌, get_or}
use Rattle.bt_session.specs.Frames.{frames_to}
use Rattle.bt_swarm.specs.declared.member.Member.{Member}
use Rattle.bt_swarm.specs.Causes.{IsFaultOf}
use Rattle.bt_swarm.specs.Moves.{Moves}
use Rattle.bt_swarm.proofs.member.deliver.Given as goal

abbrev pub invariant-loop-member : goal.invariant-loop-member
invariant-loop-member g l = record {
  gone_over : (i : ℕ) (d : Member g.row.G-R.Denot g.row.G-W.Denot) → i < l.member-index
      → Moves g.G.R.Read.remaining g.G.W.QueuedWriter.contents [] (frames_to (get_or l.fn.members i d).key l.send) (IsFaultOf g.G.R.WatchedReader.has_failed g.G.W.QueuedWriter.has_failed g.G.Gate.is_troubled) (get_or l.fn.members i d) (get_or l.members i d);
  others : (i : ℕ) (d : Member g.row.G-R.Denot g.row.G-W.Denot) → l.member-index ≤ i → get_or l.members i d ≡ get_or l.fn.members i d;
}
