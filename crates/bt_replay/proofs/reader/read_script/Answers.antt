use Rattle.std.proofs.Common.{rules, tests}
use Rattle.bt_replay.proofs.ReaderScript.{no_room}
use Rattle.bt_replay.proofs.reader.read_script.Goals as goal

pub returns-in_err-extend_from_slice-clause-unread : goal.returns-in_err-extend_from_slice-clause-unread
returns-in_err-extend_from_slice-clause-unread g c =
    no_room c.from_residual-in_err-extend_from_slice.result _ _ _ _ _ _ _ c.reads.invariant c.in_ok-count.ensures.given (search (rules, tests))
    c.from_residual-in_err-extend_from_slice.ensures.1
