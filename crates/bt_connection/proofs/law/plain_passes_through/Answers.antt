use Rattle.bt_connection.proofs.Plain.{plain}
use Rattle.bt_connection.proofs.law.plain_passes_through.Goals as goal

pub returns : goal.returns
returns c = plain
