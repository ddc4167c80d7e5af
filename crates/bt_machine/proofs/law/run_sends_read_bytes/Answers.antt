use Rattle.bt_machine.proofs.Sends.{run_sends}
use Rattle.bt_machine.proofs.law.run_sends_read_bytes.Goals as goal

pub returns : goal.returns
returns g c = run_sends g.H.NodeHash.digest
