use Rattle.std.proofs.Common.{arith}
use Rattle.bt_sockets.proofs.Partings.{loses_more}
use Rattle.bt_sockets.proofs.parting.hear_out.Goals as goal

pub loop-preserved : goal.loop-preserved
loop-preserved g c =
    let so = c.loop.invariant in
    record {
      within = omega (arith, so.within);
      lost = loses_more 65536 c.loop.left c.in-Some.count (g.S.Read.remaining c.args.stream.now) _ (g.S.Read.remaining c.hear.new.stream)
          so.within c.in-Some.ensures.few so.lost c.in-Some.ensures.heard;
    }
