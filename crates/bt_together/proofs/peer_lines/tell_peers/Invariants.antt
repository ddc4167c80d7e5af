-- The lines of the peers so far are written.
use Rattle.std.proofs.Common.{take}
use Rattle.std.specs.Io.KnownBytes.{Appends}
use Rattle.bt_together.specs.PeerLines.{peer_lines}
use Rattle.bt_together.proofs.peer_lines.tell_peers.Given as goal

abbrev pub invariant-loop-i : goal.invariant-loop-i
invariant-loop-i g l =
    Appends (g.W.Write.contents l.initial.writer) (g.W.Write.contents l.writer) (peer_lines (take l.i l.peers) (take l.i l.ends))
