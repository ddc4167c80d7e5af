use Rattle.bt_connection.proofs.ReadsAhead.{read_of}
use Rattle.bt_connection.proofs.read_ahead.ReadAheadRead.read.Goals as goal

pub returns-clause-given : goal.returns-clause-given
returns-clause-given g c =
    read_of g.R.Read.remaining c.args.self.now c.fill.new.self c.give.new.self c.give.result c.give.new.buffer
    c.in_ok-fill.ensures.filled c.give.ensures.given
