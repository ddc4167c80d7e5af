use Rattle.std.proofs.Common.{refl}
use Rattle.bt_replay.specs.declared.line.Line.TheVariants.{Torrent}
use Rattle.bt_replay.proofs.Fields.{err_always, none_holds}
use Rattle.bt_replay.proofs.line.torrent_line.Goals as goal

pub returns-in-None-clause-none : goal.returns-in-None-clause-none
returns-in-None-clause-none c line h = none_holds _ c.in_ok-bytes.ensures.none c.in-None.is h.0 h.1

pub returns-in_err-bytes-clause-memory : goal.returns-in_err-bytes-clause-memory
returns-in_err-bytes-clause-memory c =
    let bytes = c.in_err-bytes.ensures.memory in
    err_always c.from_residual.result (Torrent bytes.0, (bytes.0, bytes.1, refl), tt)
