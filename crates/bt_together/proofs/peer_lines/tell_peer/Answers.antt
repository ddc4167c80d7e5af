use Rattle.std.proofs.Common.{inl, inr}
use Rattle.bt_files.proofs.Faults.{err_weaker, passed_on}
use Rattle.bt_together.proofs.peer_lines.tell_peer.Goals as goal

pub returns-in_err-before-clause-fault : goal.returns-in_err-before-clause-fault
returns-in_err-before-clause-fault g c =
    passed_on c.from_residual.result _ _ c.from_residual.ensures.1 (inr (inr c.in_err-before.was))
