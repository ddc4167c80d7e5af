use Rattle.std.proofs.Common.{arith, rules}
use Rattle.bt_files.proofs.Faults.{ok_weaker}
use Rattle.bt_files.proofs.data_files.open_entry.Goals as goal

pub returns-clause-opened : goal.returns-clause-opened
returns-clause-opened g c = search rules

pub returns-clause-empty : goal.returns-clause-empty
returns-clause-empty g c = ok_weaker c.open_device.result _ _ (λ file known none. absurd (omega arith)) c.open_device.ensures.filled

pub returns-clause-filled : goal.returns-clause-filled
returns-clause-filled g c = ok_weaker c.open_device.result _ _ (λ file known some. known) c.open_device.ensures.filled
