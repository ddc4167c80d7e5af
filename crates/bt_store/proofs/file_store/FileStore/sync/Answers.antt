use Rattle.std.proofs.Common.{rules}
use Rattle.bt_store.proofs.file_store.FileStore.sync.Goals as goal

pub returns-clause-call : goal.returns-clause-call
returns-clause-call g c = search rules
