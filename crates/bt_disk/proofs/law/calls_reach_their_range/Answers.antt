use Rattle.bt_disk.proofs.Images.{call_reaches}
use Rattle.bt_disk.proofs.law.calls_reach_their_range.Goals as goal

pub returns : goal.returns
returns c = call_reaches
