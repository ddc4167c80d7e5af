use Rattle.std.proofs.Common.{◌<◌, subst, arith}
use Rattle.bt_connection.specs.ReadAhead.{ReaderState, reader_remaining}
use Rattle.bt_connection.specs.Padded.{PaddedState, padded_state, IsRead}
use Rattle.bt_connection.proofs.LongReads.{end_read, long_read}
use Rattle.bt_connection.proofs.ReadsAhead.{unready}
use Rattle.bt_connection.proofs.padded.Padded+ReadAhead+R+O.read_long.Goals as goal

pub returns-then-not-is_ready-clause-given : goal.returns-then-not-is_ready-clause-given
returns-then-not-is_ready-clause-given g c =
    let p = c.self.inside in
    let filled = c.fill.new.self in
    subst
    (λ (s : PaddedState (ReaderState _)).
    IsRead (reader_remaining g.R.Read.remaining) s 0 c.args.buffer.now (padded_state filled p.direction))
    c.self.view_is
    (end_read g.R.Read.remaining p.inner filled p.direction c.args.buffer.now c.in_ok-fill.ensures.filled c.if-not-is_between.ensures.waiting
    (unready c.is_ready.result filled.ready c.if-not-is_ready.true c.is_ready.ensures.1))

pub returns-clause-given : goal.returns-clause-given
returns-clause-given g c =
    let p = c.self.inside in
    let passed = c.pass_long-count in
    let some : 0 < passed.result = omega (arith, c.if-count-eq0.false) in
    subst
    (λ (s : PaddedState (ReaderState _)).
    IsRead (reader_remaining g.R.Read.remaining) s passed.result passed.new.buffer (padded_state passed.new.from passed.new.self))
    c.self.view_is
    (long_read g.R.Read.remaining p.inner c.fill.new.self passed.new.from p.direction passed.new.self passed.result passed.new.buffer
    c.in_ok-fill.ensures.filled c.if-not-is_between.ensures (passed.ensures.passed some) passed.ensures.others some)
