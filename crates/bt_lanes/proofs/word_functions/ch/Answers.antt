use Rattle.std.proofs.Common.{arith}
use Rattle.bt_lanes.proofs.Bitwise.{ch_short}
use Rattle.bt_lanes.proofs.word_functions.ch.Goals as goal

pub returns : goal.returns
returns c = ch_short c.args.x c.args.y c.args.z (omega arith) (omega arith) (omega arith)
