use Rattle.bt_connection.proofs.Readers.{written}
use Rattle.bt_connection.proofs.padded.Padded.give_on.Goals as goal

pub returns : goal.returns
returns g c =
    written g.W.Write.contents c.in_ok-count.count c.args.bytes.now c.collect.new.from.now c.self.inside.inner c.send.new.to c.self.inside.direction c.collect.new.self
    c.send.new.self c.args.self.now c.self.view_is c.if-is_ready.ensures.none c.in_ok-count.ensures.came c.in_ok-send.ensures.sent c.in_ok-send.ensures.none
