use Rattle.std.proofs.Common.{refl}
use Rattle.bt_replay.specs.declared.line.Line.TheVariants.{Feed}
use Rattle.bt_replay.proofs.Fields.{err_always, none_holds}
use Rattle.bt_replay.proofs.line.feed_line.Goals as goal

pub returns-in-None-clause-none : goal.returns-in-None-clause-none
returns-in-None-clause-none c line h = none_holds _ c.in_ok-key.ensures.none c.in-None.is h.0 h.1 h.2

pub returns-in_err-key-clause-memory : goal.returns-in_err-key-clause-memory
returns-in_err-key-clause-memory c =
    let found = c.in_err-key.ensures.memory in
    err_always c.from_residual.result (Feed found.0 found.1, (found.0, found.1, found.2, refl), tt)
