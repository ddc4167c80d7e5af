use Rattle.std.proofs.Common.{rules}
use Rattle.bt_devices.proofs.hash.look_up.Goals as goal

pub returns : goal.returns
returns c = search rules
