use Rattle.bt_lanes.proofs.Bitwise.{maj_short}
use Rattle.bt_lanes.proofs.word_functions.maj.Goals as goal

pub returns : goal.returns
returns c = maj_short c.args.x c.args.y c.args.z
