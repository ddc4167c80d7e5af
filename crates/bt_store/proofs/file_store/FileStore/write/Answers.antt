use Rattle.bt_store.specs.ArrivalSteps.{marked, waiting, fault}
use Rattle.bt_store.proofs.file_store.FileStore.write.Goals as goal

pub returns-in-Err-clause-written : goal.returns-in-Err-clause-written
returns-in-Err-clause-written g c = fault c.args.is_known

pub returns-then-is_known-clause-written : goal.returns-then-is_known-clause-written
returns-then-is_known-clause-written g c = rw c.if-is_known.true marked

pub returns-clause-written : goal.returns-clause-written
returns-clause-written g c = rw c.if-is_known.false waiting
