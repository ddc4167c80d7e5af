use Rattle.std.proofs.Common.{◌<◌, length, arith}
use Rattle.bt_session.proofs.Consumed.{kept_then}
use Rattle.bt_session.proofs.incoming.read_some.Goals as goal

pub returns-in-Ok-clause-given : goal.returns-in-Ok-clause-given
returns-in-Ok-clause-given g c =
    let read = c.in-Ok.ensures in
    let room : 0 < length c.read_once.new.buffer = omega (arith, c.requires.some, c.loop.auto.buffer, c.read_once.auto.buffer) in
    record {
      within = read.bound.0;
      taken = kept_then _ _ _ _ c.loop.invariant.kept read.bytes.0;
      ended = λ none. read.bytes.1 none room;
    }
