use Rattle.bt_engine.specs.Leads.{none, both}
use Rattle.bt_files.proofs.Faults.{err_weaker}
use Rattle.bt_transfer.proofs.AtOnce.{concluding_fails}
use Rattle.bt_transfer.proofs.command.fetch_together.fetch_and_tell.Goals as goal

pub returns-in_err-ends-clause-run : goal.returns-in_err-ends-clause-run
returns-in_err-ends-clause-run g c = none c.args.engine.now

pub returns-clause-run : goal.returns-clause-run
returns-clause-run g c =
    both _ _ _ c.fetch_and_sync-fetched.ensures.run c.conclude.ensures.run

pub returns-clause-cause : goal.returns-clause-cause
returns-clause-cause g c =
    err_weaker c.conclude.result _ _ (λ fault fails. concluding_fails fault c.fetch_and_sync-fetched.ensures.run fails) c.conclude.ensures.failed
