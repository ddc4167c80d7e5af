use Rattle.std.proofs.Common.{arith}
use Rattle.bt_engine_after.proofs.Sendings.{one_sent}
use Rattle.bt_engine_after.proofs.sending.send_requests.Goals as goal

pub loop-block-preserved : goal.loop-block-preserved
loop-block-preserved c =
    let so_far = c.loop-block.invariant in
    let items = rw c.unwrap.ensures at c.push.ensures.items in
    record {
      sent = one_sent c.args.torrent.now c.args.key c.args.blocks.now c.args.send.now.items c.loop-block.block-index _ c.loop-block.send.items
          c.push.new.self.items c.request_of-ask.result c.loop-block-test.true so_far.sent items c.request_of-ask.ensures;
      few = omega (arith, so_far.few, c.push.ensures.upper_bound);
      capacity = omega (arith, so_far.capacity, c.push.ensures.capacity);
    }
