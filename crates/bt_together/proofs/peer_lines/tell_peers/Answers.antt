use Rattle.std.proofs.Common.{arith}
use Rattle.bt_together.proofs.PeerLines.{one_line_more}
use Rattle.bt_together.proofs.peer_lines.tell_peers.Goals as goal

pub loop-i-preserved : goal.loop-i-preserved
loop-i-preserved g c =
    one_line_more c.args.peers.now c.args.ends.now c.loop-i.i _ _ (g.W.Write.contents c.args.writer.now) (g.W.Write.contents c.loop-i.writer)
    (g.W.Write.contents c.write_peer.new.writer) c.requires.each (omega arith) c.loop-i.invariant c.in_ok-write_peer.ensures.text
