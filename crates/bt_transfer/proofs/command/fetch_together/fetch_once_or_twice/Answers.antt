use Rattle.bt_engine.specs.Leads.{both}
use Rattle.bt_files.proofs.Faults.{passed_on}
use Rattle.bt_together.proofs.Swarms.{fails_behind}
use Rattle.bt_transfer.specs.FetchTogether.{once, twice}
use Rattle.bt_transfer.proofs.command.fetch_together.fetch_once_or_twice.Goals as goal

pub returns-in_err-fetch_once-2-clause-cause : goal.returns-in_err-fetch_once-2-clause-cause
returns-in_err-fetch_once-2-clause-cause g c =
    passed_on c.from_residual-in_err-fetch_once-2.result _ _ c.from_residual-in_err-fetch_once-2.ensures.1
    (fails_behind _ _ c.args.engine.now c.fetch_once.new.engine _ c.fetch_once.ensures.run c.in_err-fetch_once-2.ensures.cause)

pub returns-in_err-fetch_once-2-clause-run : goal.returns-in_err-fetch_once-2-clause-run
returns-in_err-fetch_once-2-clause-run g c =
    both _ _ _ c.fetch_once.ensures.run c.fetch_once-then-branch.ensures.run

pub returns-in_ok-fetch_once-2-clause-run : goal.returns-in_ok-fetch_once-2-clause-run
returns-in_ok-fetch_once-2-clause-run g c =
    both _ _ _ c.fetch_once.ensures.run c.fetch_once-then-branch.ensures.run

pub returns-in_ok-fetch_once-2-clause-fetched : goal.returns-in_ok-fetch_once-2-clause-fetched
returns-in_ok-fetch_once-2-clause-fetched g c =
    twice c.args.engine.now c.fetch_once.new.engine c.fetch_once-then-branch.new.engine c.fetch_once.new.ends c.fetch_once-then-branch.new.ends
    c.in_ok-fetch_once.ensures.fetched (c.in_ok-fetch_once.ensures.lacks c.if-branch.true) c.in_ok-fetch_once-2.ensures.fetched

pub returns-else-branch-clause-fetched : goal.returns-else-branch-clause-fetched
returns-else-branch-clause-fetched g c =
    once c.args.engine.now c.fetch_once.new.engine c.fetch_once.new.ends c.in_ok-fetch_once.ensures.fetched
