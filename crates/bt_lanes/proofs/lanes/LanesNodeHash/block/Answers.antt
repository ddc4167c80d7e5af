use Rattle.std.proofs.Common.{rules}
use Rattle.bt_lanes.proofs.lanes.LanesNodeHash.block.Goals as goal

pub returns : goal.returns
returns c = search rules
