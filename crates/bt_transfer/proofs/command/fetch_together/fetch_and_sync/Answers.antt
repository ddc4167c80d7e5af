use Rattle.bt_engine.specs.Leads.{both}
use Rattle.bt_transfer.proofs.command.fetch_together.fetch_and_sync.Goals as goal

pub returns-clause-run : goal.returns-clause-run
returns-clause-run g c =
    both _ _ _ c.fetch_once_or_twice.ensures.run c.finish.ensures.run
