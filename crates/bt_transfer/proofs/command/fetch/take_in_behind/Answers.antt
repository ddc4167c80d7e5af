use Rattle.std.proofs.Common.{sym, subst}
use Rattle.std.specs.Prelude.{OnOk}
use Rattle.bt_engine.specs.Leads.{none}
use Rattle.bt_transfer.specs.Turns.{TakesInBehind}
use Rattle.bt_transfer.proofs.command.fetch.take_in_behind.Goals as goal

pub returns-in-Session-clause-taken_in : goal.returns-in-Session-clause-taken_in
returns-in-Session-clause-taken_in g c =
    subst (λ end. OnOk c.adopt_waiting.result (TakesInBehind g.D.Disk.conduct g.H.NodeHash.digest end c.args.engine.now c.adopt_waiting.new.engine))
    (sym c.in-Session.is) c.adopt_waiting.ensures.taken_in

pub returns-in-Untried-clause-run : goal.returns-in-Untried-clause-run
returns-in-Untried-clause-run g c = none c.args.engine.now

pub returns-in-Unreachable-clause-run : goal.returns-in-Unreachable-clause-run
returns-in-Unreachable-clause-run g c = none c.args.engine.now

pub returns-in-Refused-clause-run : goal.returns-in-Refused-clause-run
returns-in-Refused-clause-run g c = none c.args.engine.now
