use Rattle.std.proofs.Common.{arith}
use Rattle.bt_meta.proofs.Steps.{has_overlap_steps}
use Rattle.bt_meta.proofs.writer.has_overlap.Goals as goal

pub returns-then-begins : goal.returns-then-begins
returns-then-begins c = grind (arith, has_overlap_steps, c.loop-i.invariant, c.loop-i-test.true, c.if-begins.ensures)
