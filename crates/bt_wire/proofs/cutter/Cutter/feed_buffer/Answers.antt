use Rattle.std.proofs.Common.{arith}
use Rattle.std.proofs.lemmas.Grind.{common_steps}
use Rattle.bt_wire.proofs.cutter.Cutter.feed_buffer.Goals as goal

pub returns-clause-fed : goal.returns-clause-fed
returns-clause-fed c = grind (arith, common_steps)
