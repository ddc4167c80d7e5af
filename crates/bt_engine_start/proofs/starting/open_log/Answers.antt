use Rattle.std.proofs.Common.{sym, ap}
use Rattle.bt_engine_state.specs.Pending.{PendingView}
use Rattle.bt_engine_start.proofs.starting.open_log.Goals as goal

pub returns-in-Some-clause-log : goal.returns-in-Some-clause-log
returns-in-Some-clause-log g c = sym c.in-Some.is

pub returns-in-Some-clause-pending : goal.returns-in-Some-clause-pending
returns-in-Some-clause-pending g c = ap (λ (p : PendingView). p.hints) c.new-pending.ensures

pub returns-in-None-clause-log : goal.returns-in-None-clause-log
returns-in-None-clause-log g c = sym c.in-None.is
